-- Of `Cluster::change`: what the call of `make` requires.
use Rattle.std.proofs.Common.{◌≡◌, sym, subst, true, length, ℤ, List}
use Rattle.std.specs.Prelude.{IfSome}
use Rattle.std.specs.Option.{option_copied}
use Rattle.std.proofs.lemmas.Option.{IfSome_then}
use Rattle.pm_device.specs.declared.state.Next.{Next}
use Rattle.pm_offer.specs.Offers.{device_demand}
use Rattle.pm_cluster.proofs.Making.{made_demand}
use Rattle.pm_cluster.proofs.cluster.Cluster.change.Goals as goal

pub make-requires-clause-given : goal.make-requires-clause-given
make-requires-clause-given c =
    let now = c.args.self.now in
    let made = c.args.made.now in
    let follows = c.in_ok-check_change.ensures.follows in
    let Given : Next → Type 0 = λ next. next.member ≡ true →
    IfSome (option_copied c.own_demand.result) (λ demand. demand ≡ device_demand now.plan next.device next.number) in
    subst Given (sym c.next.ensures.next) (λ member.
    IfSome_then _ (c.own_demand.ensures.demand member) (λ (demand : List ℤ) is.
    made_demand now.plan now.core made.next made.kind demand (length made.demand) member follows.kind follows.next c.requires.steps is))

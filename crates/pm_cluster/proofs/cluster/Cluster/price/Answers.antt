-- Of `Cluster::price`: its clause `current`; what the call of `price` requires.
use Rattle.std.proofs.Common.{◌≡◌, ◌∙◌, ap, subst, arith}
use Rattle.pm_basis.specs.Prices.{BasisValue, price_at}
use Rattle.pm_market.specs.State.{State}
use Rattle.pm_market.specs.Moves.{Idle}
use Rattle.pm_plan.specs.Auction.{plain_step}
use Rattle.pm_plan.specs.States.{state}
use Rattle.pm_plan.specs.Market.{plan_lists}
use Rattle.pm_stands.specs.Stands.{StandsFor}
use Rattle.pm_stands.proofs.AllCurrent.{quiet_current}
use Rattle.pm_cluster.specs.Clusters.{ClusterValue}
use Rattle.pm_cluster.specs.ClusterFields.{core_of}
use Rattle.pm_cluster.proofs.Readers.{auction_steps, price_read}
use Rattle.pm_cluster.proofs.cluster.Cluster.price.Goals as goal

pub price-requires : goal.price-requires
price-requires c =
    omega (
      arith,
      c.step.ensures.inside,
      auction_steps c.self.inside.plan.now (core_of c.self.inside) c.self.invariant.stands,
      ap (λ (b : BasisValue). b.steps) c.basis.ensures.basis,
    )

pub returns-clause-current : goal.returns-clause-current
returns-clause-current c s stands idle =
    let Claim : ClusterValue → Type 0 = λ v. (s : State) → StandsFor v.plan v.core s → Idle (plan_lists v.plan) s →
    c.price.result ≡ price_at v.plan.basis (plain_step v.plan (state v.plan) s.counts) in
    let plan = c.self.inside.plan.now in
    price_read c.basis.result.now c.price.result c.price.ensures.sound c.price.ensures.from_min c.price.ensures.to_max
    ∙ subst Claim c.self.view_is (λ s stands idle.
    c.price.ensures.price ∙ ap (λ (b : BasisValue). price_at b c.step.result) c.basis.ensures.basis
    ∙ ap (price_at plan.basis) (c.step.ensures.step
    ∙ (quiet_current plan (core_of c.self.inside) s c.self.invariant.is_plan stands idle).step)) s stands idle

-- Of `Cluster::change_owned`: what the calls of `fill_bid` and `make_owned` require.
use Rattle.std.proofs.Common.{◌≡◌, ◌≢◌, ◌∙◌, sym, ap, subst, true, length, ℤ, List, IsTrue, rules}
use Rattle.pm_device.specs.declared.kind.Kind.{Kind}
use Rattle.pm_device.specs.declared.kind.Kind.TheVariants.{Manual}
use Rattle.pm_device.specs.declared.state.Next.{Next}
use Rattle.pm_device.specs.Kinds.{state_fits}
use Rattle.pm_strategy.specs.Strategies.{bid_of}
use Rattle.pm_offer.specs.Offers.{device_demand}
use Rattle.pm_cluster.specs.Clusters.{ClusterValue}
use Rattle.pm_cluster.specs.ClusterFields.{core_of}
use Rattle.pm_cluster.proofs.Making.{filled_demand, made_demand, within_changes}
use Rattle.pm_cluster.proofs.NextChanges.{state_valid}
use Rattle.pm_cluster.proofs.Noted.{followed}
use Rattle.pm_cluster.proofs.cluster.Cluster.change_owned.Goals as goal
use Rattle.pm_cluster.proofs.cluster.Cluster.change_owned.Goals.{then-eq, else-eq}

pub fill_bid-requires-clause-fits : goal.fill_bid-requires-clause-fits
fill_bid-requires-clause-fits c =
    let inside = c.self.inside in
    let next = c.args.made.next in
    let kind = c.args.made.kind in
    let is = c.in_default.ensures.follows in
    let follows = followed inside c.args.self.now next kind c.self.view_is (record { leaf = is.leaf; its_next = is.next; its_kind = is.kind }) in
    let fits = state_valid inside.plan.now c.self.invariant.is_plan next.device next.number kind next.state.0 follows.its_kind
    (within_changes inside.plan.now (core_of inside) next kind follows) follows.its_next.state in
    subst (λ (k : Kind). IsTrue (state_fits k c.next-next.result.state.0)) (sym c.kind-kind.ensures.kind)
    (subst (λ (n : Next). IsTrue (state_fits kind n.state.0)) (sym c.next-next.ensures.next) fits)

pub make_owned-what-requires-clause-given : goal.make_owned-what-requires-clause-given
make_owned-what-requires-clause-given c member =
    let now = c.args.self.now in
    let made = c.args.made in
    let is = c.in_default.ensures.follows in
    let on : made.next.member ≡ true = sym (ap (λ (n : Next). n.member) c.next-next.ensures.next) ∙ member in
    let own = c.into_demand-demand in
    let given : c.if-eq.demand ≡ device_demand now.plan made.next.device made.next.number = elim c.if-eq.branch [
      | then-eq w ↦
          let filled : w.fill_bid.new.out ≡ bid_of made.kind made.next.state.0 w.arrays.result.now (length made.demand) =
          w.fill_bid.ensures.bid
          ∙ ap (λ (k : Kind). bid_of k c.next-next.result.state.0 w.arrays.result.now (length own.result)) c.kind-kind.ensures.kind
          ∙ ap (λ (n : Next). bid_of made.kind n.state.0 w.arrays.result.now (length own.result)) c.next-next.ensures.next
          ∙ ap (λ (d : List ℤ). bid_of made.kind made.next.state.0 w.arrays.result.now (length d)) own.ensures.demand in
          w.demand-is ∙ filled_demand now.plan now.core made.next made.kind w.fill_bid.new.out w.arrays.result.now (length made.demand) on
          is.kind is.next c.requires.steps (w.arrays.ensures.arrays ∙ ap (λ (v : ClusterValue). v.plan.arrays) c.self.view_is) filled
      | else-eq w ↦
          let other : made.kind ≢ Manual = search rules in
          w.demand-is ∙ own.ensures.demand
          ∙ made_demand now.plan now.core made.next made.kind made.demand (length made.demand) on is.kind is.next c.requires.steps
          (λ arrays. own.ensures.made.strategic on other arrays)
    ] in
    subst (λ (n : Next). c.if-eq.demand ≡ device_demand now.plan n.device n.number) (sym c.next-next.ensures.next) given

-- Of `Cluster::aggregate`: its clauses `known` and `current`.
use Rattle.std.proofs.Common.{◌≡◌, ◌∙◌, ap, subst}
use Rattle.pm_cache.specs.Cache.{aggregate_of}
use Rattle.pm_market.specs.State.{State, knowledge}
use Rattle.pm_market.specs.Moves.{Idle}
use Rattle.pm_plan.specs.Auction.{total}
use Rattle.pm_plan.specs.States.{state}
use Rattle.pm_plan.specs.Market.{plan_lists}
use Rattle.pm_stands.specs.Stands.{StandsFor}
use Rattle.pm_stands.proofs.AllCurrent.{quiet_current}
use Rattle.pm_offer.specs.Offers.{children_sum}
use Rattle.pm_cluster.specs.Clusters.{ClusterValue}
use Rattle.pm_cluster.specs.ClusterFields.{core_of}
use Rattle.pm_cluster.proofs.EndsAlike.{sum_of_known}
use Rattle.pm_cluster.proofs.cluster.Cluster.aggregate.Goals as goal

pub returns-clause-known : goal.returns-clause-known
returns-clause-known c s stands =
    let Claim : ClusterValue → Type 0 = λ v. (s : State) → StandsFor v.plan v.core s →
    c.aggregate.result.now ≡ children_sum v.plan 0 (knowledge (plan_lists v.plan) s 0) in
    subst Claim c.self.view_is (λ s stands.
    c.aggregate.ensures.sum ∙ ap aggregate_of c.cache.ensures.cache
    ∙ sum_of_known c.self.inside.plan.now (core_of c.self.inside) s c.self.invariant.is_plan stands) s stands

pub returns-clause-current : goal.returns-clause-current
returns-clause-current c s stands idle =
    let Claim : ClusterValue → Type 0 = λ v. (s : State) → StandsFor v.plan v.core s → Idle (plan_lists v.plan) s →
    c.aggregate.result.now ≡ total v.plan (state v.plan) s.counts in
    subst Claim c.self.view_is (λ s stands idle.
    c.aggregate.ensures.sum ∙ ap aggregate_of c.cache.ensures.cache
    ∙ (quiet_current c.self.inside.plan.now (core_of c.self.inside) s c.self.invariant.is_plan stands idle).aggregate) s stands idle

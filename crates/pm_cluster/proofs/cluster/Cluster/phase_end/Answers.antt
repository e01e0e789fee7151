-- Of `Cluster::phase_end`: what the call of `phase_end_into` requires.
use Rattle.std.proofs.Common.{◌+◌, ◌≤◌, length, subst, arith}
use Rattle.pm_market.specs.Lists.{nodes}
use Rattle.pm_plan.specs.Market.{plan_lists}
use Rattle.pm_cluster.specs.Clusters.{ClusterValue}
use Rattle.pm_cluster.proofs.Parents.{nodes_are}
use Rattle.pm_cluster.proofs.cluster.Cluster.phase_end.Goals as goal

pub phase_end_into-requires-clause-members : goal.phase_end_into-requires-clause-members
phase_end_into-requires-clause-members c =
    subst (λ (v : ClusterValue). nodes (plan_lists v.plan) ≤ c.in_ok-end.end.member_room + length c.in_ok-end.end.end.members) c.self.view_is
    (omega (arith, nodes_are c.self.inside.plan.now, c.in_ok-end.ensures.members))

pub phase_end_into-requires-clause-limited : goal.phase_end_into-requires-clause-limited
phase_end_into-requires-clause-limited c =
    subst (λ (v : ClusterValue). nodes (plan_lists v.plan) ≤ c.in_ok-end.end.limited_room + length c.in_ok-end.end.end.limited) c.self.view_is
    (omega (arith, nodes_are c.self.inside.plan.now, c.in_ok-end.ensures.limited))

-- Of `Cluster::all_made`: what its loop over `number` keeps.
use Rattle.std.proofs.Common.{◌≡◌, ℕ, ◌+◌, ◌<◌, slice_index_or}
use Rattle.pm_market.specs.Lists.{IsLeaf}
use Rattle.pm_plan.specs.Plans.{end_cut}
use Rattle.pm_plan.specs.Market.{plan_lists}
use Rattle.pm_cluster.proofs.cluster.Cluster.all_made.Given as goal

abbrev pub invariant-loop-number : goal.invariant-loop-number
invariant-loop-number l = (d : ℕ) → IsLeaf (plan_lists l.fn.self.plan) d → d < l.number →
    slice_index_or l.fn.self.core.counts d 0 ≡ end_cut l.fn.self.plan (l.fn.self.core.closed + 1) d

-- Of `starts`: what its loop over `number` keeps.
use Rattle.std.proofs.Common.{◌≡◌, ℕ, ◌<◌, length, get_or, Some, pos}
use Rattle.pm_market.specs.Lists.{IsLeaf}
use Rattle.pm_plan.specs.Plans.{node, start_of}
use Rattle.pm_plan.specs.Market.{plan_lists}
use Rattle.pm_cluster.proofs.opening.starts.Given as goal

abbrev pub invariant-loop-number : goal.invariant-loop-number
invariant-loop-number l =
    (length l.states.items ≡ l.number)
    × ((d : ℕ) → d < l.number → IsLeaf (plan_lists l.plan) d → start_of (node l.plan d) ≡ Some (get_or l.states.items d (record { 0 = pos 0 })).0)

-- Of `first_due`: what its loop over `number` keeps.
use Rattle.std.proofs.Common.{◌≡◌, ℕ, ◌<◌, length, get_or}
use Rattle.pm_market.specs.Lists.{IsLeaf}
use Rattle.pm_plan.specs.Plans.{phases, end_cut}
use Rattle.pm_plan.specs.Market.{plan_lists}
use Rattle.pm_cluster.proofs.opening.first_due.Given as goal

abbrev pub invariant-loop-number : goal.invariant-loop-number
invariant-loop-number l =
    (length l.due.items ≡ l.number)
    × ((d : ℕ) → d < l.number → 0 < phases l.plan → IsLeaf (plan_lists l.plan) d → get_or l.due.items d 0 ≡ end_cut l.plan 1 d)

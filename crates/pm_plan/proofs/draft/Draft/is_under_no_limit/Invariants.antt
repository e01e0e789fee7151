-- Of `Draft::is_under_no_limit`: what its loop over `above` keeps.
use Rattle.std.proofs.Common.{◌≡◌, ◌+◌, ◌≤◌, length}
use Rattle.pm_plan.specs.Plans.{group}
use Rattle.pm_plan.proofs.draft.Draft.is_under_no_limit.Given as goal

abbrev pub invariant-loop-above : goal.invariant-loop-above
invariant-loop-above l = record {
  inside : l.above.0 ≤ length l.self.entries;
  before : l.above.0 ≤ length l.self.nodes + 1;
  same : group l.self l.above.0 ≡ group l.self l.fn.node.0;
}

abbrev pub decreases-loop-above : goal.decreases-loop-above
decreases-loop-above l = l.above.0

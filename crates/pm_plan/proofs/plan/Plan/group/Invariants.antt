-- Of `Plan::group`: what its loop over `here` keeps.
use Rattle.std.proofs.Common.{◌≡◌, ◌≤◌, length}
use Rattle.pm_plan.specs.Plans.{group}
use Rattle.pm_plan.proofs.plan.Plan.group.Given as goal

abbrev pub invariant-loop-here : goal.invariant-loop-here
invariant-loop-here l = record {
  inside : l.here.0 ≤ length l.self.entries;
  same : group l.self l.initial.here.0 ≡ group l.self l.here.0;
}

abbrev pub decreases-loop-here : goal.decreases-loop-here
decreases-loop-here l = l.here.0

-- Of `are_few`: what its loop over `node` keeps.
use Rattle.std.proofs.Common.{◌≡◌, ◌+◌, take}
use Rattle.pm_base.specs.Limits.{most_changes}
use Rattle.pm_plan.specs.Plans.{all_changes}
use Rattle.pm_plan.proofs.building.draft.are_few.Given as goal

abbrev pub invariant-loop-node : goal.invariant-loop-node
invariant-loop-node l = all_changes (take l.node-index l.nodes) + l.left ≡ most_changes

-- Of `count_changes`: what its loop over `node` keeps.
use Rattle.std.proofs.Common.{◌≡◌, take}
use Rattle.pm_plan.specs.Plans.{all_changes}
use Rattle.pm_plan.proofs.plan.count_changes.Given as goal

abbrev pub invariant-loop-node : goal.invariant-loop-node
invariant-loop-node l = l.count ≡ all_changes (take l.node-index l.nodes)

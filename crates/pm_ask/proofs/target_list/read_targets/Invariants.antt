-- Of `read_targets`: what its loop over `rest` keeps.
use Rattle.std.proofs.Common.{◌≡◌, ◌++◌, length}
use Rattle.pm_ask.specs.TargetLists.{AreTargets, targets_text}
use Rattle.pm_ask.proofs.target_list.read_targets.Given as goal

abbrev pub invariant-loop-rest : goal.invariant-loop-rest
invariant-loop-rest l = record {
  list : AreTargets l.targets.items;
  parts : l.fn.text ≡ targets_text l.targets.items ++ l.rest;
}

abbrev pub decreases-loop-rest : goal.decreases-loop-rest
decreases-loop-rest l = length l.rest

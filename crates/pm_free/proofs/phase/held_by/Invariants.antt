-- Of `held_by`: what its loop over `part` keeps.
use Rattle.std.proofs.Common.{◌≡◌, map, take}
use Rattle.pm_phase.specs.Nodes.{held_by_node}
use Rattle.pm_free.proofs.phase.held_by.Given as goal

abbrev pub invariant-loop-part : goal.invariant-loop-part
invariant-loop-part l = l.held.items ≡ map held_by_node (take l.part-index l.parts)

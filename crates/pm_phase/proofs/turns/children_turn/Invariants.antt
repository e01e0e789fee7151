-- Of `children_turn`: what its loop over `place` keeps.
use Rattle.std.proofs.Common.{All, ◌-◌, length}
use Rattle.pm_phase.specs.Ends.{IsDownOf}
use Rattle.pm_phase.specs.KeepingParents.{ChildrenMoveOn}
use Rattle.pm_phase.proofs.turns.children_turn.Given as goal

abbrev pub invariant-loop-place : goal.invariant-loop-place
invariant-loop-place l = All (IsDownOf l.links) l.downs.items × ChildrenMoveOn l.fn.downs.items l.downs.items l.fn.parent l.parent

abbrev pub decreases-loop-place : goal.decreases-loop-place
decreases-loop-place l = length l.downs.items - l.place

-- Of `put_ends`: what its loop over `phase` keeps.
use Rattle.std.proofs.Common.{◌≡◌, ◌+◌, length}
use Rattle.pm_board.specs.Boards.{kept_ends}
use Rattle.pm_free.specs.SameEnds.{AreSameEnds}
use Rattle.pm_free.proofs.settle.put_ends.Given as goal

abbrev pub invariant-loop-phase : goal.invariant-loop-phase
invariant-loop-phase l = (kept_ends l.ends.items ≡ kept_ends l.fn.ends.items)
    × AreSameEnds l.place l.phase-iterator.rest.items (kept_ends l.fn.ends.items)
    × (l.place + length l.phase-iterator.rest.items ≡ length l.fn.phases.items)

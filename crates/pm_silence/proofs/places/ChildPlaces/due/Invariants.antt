-- those so far, and those to come, are all
use Rattle.std.proofs.Common.{◌≡◌, ◌++◌, drop}
use Rattle.pm_silence.specs.ChildPlaces.{due_from}
use Rattle.pm_silence.proofs.places.ChildPlaces.due.Given as goal

abbrev pub invariant-loop-child : goal.invariant-loop-child
invariant-loop-child l =
    l.due.items ++ due_from (drop l.child l.self.places.items) l.grace l.now l.child ≡ due_from l.self.places.items l.grace l.now 0

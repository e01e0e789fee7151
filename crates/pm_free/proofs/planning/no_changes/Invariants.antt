-- Of `no_changes`: what lasts from turn to turn.
use Rattle.pm_free.specs.Counting.{AreTold}
use Rattle.pm_free.proofs.planning.no_changes.Given as goal

abbrev pub invariant-loop : goal.invariant-loop
invariant-loop l = AreTold l.plan l.changes.items

-- Of `make_changes`: what its loop over `made` keeps.
use Rattle.std.proofs.Common.{◌≡◌, ◌≤◌}
use Rattle.pm_free.specs.Counting.{AreTold}
use Rattle.pm_free.proofs.planning.make_changes.Given as goal

abbrev pub invariant-loop-made : goal.invariant-loop-made
invariant-loop-made l =
    (l.board.plan ≡ l.fn.board.plan) × (l.agents ≡ l.fn.agents) × (l.count ≤ l._made) × AreTold l.fn.board.plan l.changes.items

-- Of `sweep`: what its loops over `before` and `node` keep.
use Rattle.std.proofs.Common.{◌≡◌}
use Rattle.pm_free.proofs.planning.sweep.Given as goal

abbrev pub invariant-loop-before : goal.invariant-loop-before
invariant-loop-before l = l.board.plan ≡ l.fn.board.plan

abbrev pub invariant-loop-node : goal.invariant-loop-node
invariant-loop-node l = l.board.plan ≡ l.fn.board.plan

-- Of `take_turns`: what lasts from turn to turn.
use Rattle.std.proofs.Common.{◌≡◌}
use Rattle.pm_free.proofs.planning.take_turns.Given as goal

abbrev pub invariant-loop : goal.invariant-loop
invariant-loop l = l.board.plan ≡ l.fn.board.plan

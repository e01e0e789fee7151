-- Of `parent_turns`: what lasts from turn to turn.
use Rattle.std.proofs.Common.{◌≡◌}
use Rattle.test_parts.proofs.cells.two_threads.parent_turns.Given as goal

abbrev pub invariant-loop : goal.invariant-loop
invariant-loop l = l.end.link ≡ l.initial.end.link

-- Of `end_phase`: what lasts from turn to turn.
use Rattle.std.proofs.Common.{◌≡◌}
use Rattle.pm_free.proofs.planning.end_phase.Given as goal

abbrev pub invariant-loop : goal.invariant-loop
invariant-loop l = (l.board.plan ≡ l.fn.board.plan) × (l.agents ≡ l.fn.agents)

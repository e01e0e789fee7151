-- Of `turn_round`: what lasts from turn to turn.
use Rattle.std.proofs.Common.{◌≡◌, ℕ, List, length, map}
use Rattle.pm_plan.specs.Parts.{event_part}
use Rattle.pm_gen.specs.Rounds.{joined_flags, seed_after}
use Rattle.pm_gen.proofs.Flags.{Turned}
use Rattle.pm_gen.proofs.rounds.turn_round.Given as goal

abbrev pub invariant-loop : goal.invariant-loop
invariant-loop l = record {
  seed : l.draws.seed ≡ seed_after l.counter l.fn.draws.seed;
  size : length l.members ≡ length l.fn.members;
  turned : (earlier : List ℕ) → l.fn.members ≡ joined_flags (length l.fn.members) earlier →
      Turned (length l.fn.members) earlier l.fn.draws.seed l.counter l.members (map event_part l.events.items);
}

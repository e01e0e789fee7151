-- Of `push_rounds`: what lasts from turn to turn.
use Rattle.std.proofs.Common.{◌≡◌, length, map}
use Rattle.pm_plan.specs.Parts.{phase_part}
use Rattle.pm_gen.proofs.Flags.{Rounded}
use Rattle.pm_gen.proofs.rounds.push_rounds.Given as goal

abbrev pub invariant-loop : goal.invariant-loop
invariant-loop l = record {
  size : length l.members ≡ length l.fn.members;
  rounded : Rounded (length l.fn.members) l.fn.draws.seed (map phase_part l.fn.phases.items) l.counter l.draws.seed l.members (map phase_part l.phases.items);
}

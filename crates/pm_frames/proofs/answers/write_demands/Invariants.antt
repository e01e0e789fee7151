-- Of `write_demands`: what its loop over `step` keeps.
use Rattle.std.proofs.Common.{◌≡◌, ◌+◌, ◌*◌, ◌≤◌, ◌++◌, take, vec_len}
use Rattle.std.specs.Prelude.{vec_capacity}
use Rattle.pm_wire.specs.Frames.{demand_bytes}
use Rattle.pm_frames.proofs.answers.write_demands.Given as goal

abbrev pub invariant-loop-step : goal.invariant-loop-step
invariant-loop-step l = record {
  written : l.out.items ≡ l.fn.out.items ++ demand_bytes (take l.step l.demand);
  length : vec_len l.out ≡ vec_len l.fn.out + 4 * l.step;
  capacity : vec_capacity l.fn.out ≤ vec_capacity l.out;
}

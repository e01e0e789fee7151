-- Of `read_demands`: what its loop over `place` keeps.
use Rattle.std.proofs.Common.{◌≡◌, ◌*◌, ◌+◌, ◌++◌, length, take, FitsSigned}
use Rattle.std.specs.Int.{w32}
use Rattle.std.specs.List.{AllByRecursion}
use Rattle.pm_wire.specs.Frames.{demand_bytes}
use Rattle.pm_wire.proofs.number_fields.read_demands.Given as goal

abbrev pub invariant-loop-place : goal.invariant-loop-place
invariant-loop-place g l = record {
  bytes : l.fn.bytes ≡ demand_bytes (take l.place-index l.place-items) ++ l.rest;
  left : length l.rest + 4 * l.place-index ≡ 4 * l.count;
  fit : AllByRecursion (λ z. FitsSigned w32 z) (take l.place-index l.place-items);
  count : length l.place-items ≡ l.count;
}

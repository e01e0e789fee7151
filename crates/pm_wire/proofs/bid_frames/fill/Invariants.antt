-- Of `fill`: what its loop over `step` keeps.
use Rattle.std.proofs.Common.{◌≡◌, ◌*◌, ◌+◌, ◌++◌, length, take, pos, FitsSigned}
use Rattle.std.specs.Int.{w32}
use Rattle.std.specs.List.{AllByRecursion}
use Rattle.pm_base.specs.Limits.{demand_limit}
use Rattle.pm_wire.specs.Frames.{demand_bytes}
use Rattle.pm_wire.proofs.Falling.{falls_from, last_from}
use Rattle.pm_wire.proofs.bid_frames.fill.Given as goal

abbrev pub invariant-loop-step : goal.invariant-loop-step
invariant-loop-step l = record {
  bytes : l.fn.bytes ≡ demand_bytes (take l.step l.bid) ++ l.rest;
  left : length l.rest + 4 * l.step ≡ 4 * length l.fn.bid;
  fit : AllByRecursion (λ z. FitsSigned w32 z) (take l.step l.bid);
  steps : length l.bid ≡ length l.fn.bid;
  before : l.before ≡ last_from (pos demand_limit) (take l.step l.bid);
  falls : l.falls ≡ falls_from (pos demand_limit) (take l.step l.bid);
}

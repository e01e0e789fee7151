-- Of `find_rise`: what its loop over `step` keeps.
use Rattle.std.proofs.Common.{◌≡◌, ℕ, ◌+◌, ◌<◌, false}
use Rattle.std.specs.Prelude.{int_lt}
use Rattle.pm_bid.specs.Bids.{demand_at}
use Rattle.pm_ask.proofs.rise.find_rise.Given as goal

abbrev pub invariant-loop-step : goal.invariant-loop-step
invariant-loop-step l = (k : ℕ) → k + 1 < l.step → int_lt (demand_at l.total k) (demand_at l.total (k + 1)) ≡ false

-- Of `find_at_most`: what its loop over `step` keeps.
use Rattle.std.proofs.Common.{◌≡◌, ℕ, ◌+◌, ◌<◌, true}
use Rattle.std.specs.Prelude.{int_lt}
use Rattle.pm_bid.specs.Bids.{demand_at}
use Rattle.pm_bid.proofs.search.find_at_most.Given as goal

abbrev pub invariant-loop-step : goal.invariant-loop-step
invariant-loop-step g l = record {
  above : (k : ℕ) → k < l.step → int_lt l.fn.limit (demand_at l.demands k) ≡ true;
  cost : l.counter ≡ l.fn.counter + l.step;
}

-- Of `find_at_least`: what its loop over `step` keeps.
use Rattle.std.proofs.Common.{◌≡◌, ℕ, ◌+◌, ◌<◌, ◌≤◌, true, length}
use Rattle.std.specs.Prelude.{int_lt}
use Rattle.pm_bid.specs.Bids.{demand_at}
use Rattle.pm_bid.proofs.search.find_at_least.Given as goal

abbrev pub invariant-loop-step : goal.invariant-loop-step
invariant-loop-step g l = record {
  below : (k : ℕ) → l.step ≤ k → k < length l.demands → int_lt (demand_at l.demands k) l.fn.limit ≡ true;
  cost : l.counter + l.step ≡ l.fn.counter + length l.demands;
}

-- Of `fill_range`: what its loop over `step` keeps.
use Rattle.std.proofs.Common.{◌≡◌, ℕ, ◌<◌, ◌≤◌, length}
use Rattle.pm_bid.specs.Bids.{demand_at}
use Rattle.pm_strategy.proofs.levels.fill_range.Given as goal

abbrev pub invariant-loop-step : goal.invariant-loop-step
invariant-loop-step l = record {
  filled : (k : ℕ) → l.fn.start ≤ k → k < l.step → demand_at l.out k ≡ l.fn.demand;
  before : (k : ℕ) → k < l.fn.start → demand_at l.out k ≡ demand_at l.fn.out k;
  reached : l.fn.start ≤ l.step;
  kept : length l.out ≡ length l.fn.out;
}

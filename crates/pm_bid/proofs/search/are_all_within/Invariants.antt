-- Of `are_all_within`: what its loop over `step` keeps.
use Rattle.std.proofs.Common.{◌≡◌, ℕ, ◌+◌, ◌<◌, ◌≤ℤ◌}
use Rattle.pm_bid.specs.Bids.{demand_at}
use Rattle.pm_bid.proofs.search.are_all_within.Given as goal

abbrev pub invariant-loop-step : goal.invariant-loop-step
invariant-loop-step g l = record {
  inside : (k : ℕ) → k < l.step → (l.limits.floor ≤ℤ demand_at l.demands k) × (demand_at l.demands k ≤ℤ l.limits.ceiling);
  cost : l.counter ≡ l.fn.counter + l.step;
}

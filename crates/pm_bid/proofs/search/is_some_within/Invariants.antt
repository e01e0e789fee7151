-- Of `is_some_within`: what its loop over `step` keeps.
use Rattle.std.proofs.Common.{◌≡◌, ℕ, ◌+◌, ◌<◌}
use Rattle.pm_bid.specs.Bids.{demand_at}
use Rattle.pm_bid.specs.Taken.{IsWithinLimits}
use Rattle.pm_bid.proofs.search.is_some_within.Given as goal

abbrev pub invariant-loop-step : goal.invariant-loop-step
invariant-loop-step g l = record {
  outside : (k : ℕ) → k < l.step → IsWithinLimits l.limits (demand_at l.demands k) → ⊥;
  cost : l.counter ≡ l.fn.counter + l.step;
}

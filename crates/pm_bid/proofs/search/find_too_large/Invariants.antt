-- Of `find_too_large`: what its loop over `step` keeps.
use Rattle.std.proofs.Common.{◌≡◌, ℕ, ◌<◌, false}
use Rattle.pm_bid.specs.Bids.{demand_at}
use Rattle.pm_bid.specs.Checks.{is_too_large}
use Rattle.pm_bid.proofs.search.find_too_large.Given as goal

abbrev pub invariant-loop-step : goal.invariant-loop-step
invariant-loop-step l = (k : ℕ) → k < l.step → is_too_large (demand_at l.demands k) ≡ false

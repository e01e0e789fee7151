-- Of `Market::mark_above`: what its loop over `step` keeps.
use Rattle.std.proofs.Common.{◌≡◌, ◌<◌, ◌-◌, ◌||◌, ℕ, false, get_or, length}
use Rattle.pm_market.specs.Lists.{is_below, is_below_in}
use Rattle.pm_market.specs.Market.{market_lists}
use Rattle.pm_market.proofs.market.Market.mark_above.Given as goal

abbrev pub invariant-loop-step : goal.invariant-loop-step
invariant-loop-step l = record {
  size : length l.marks ≡ length l.fn.marks;
  marks : (k : ℕ) → k < length l.fn.marks →
      get_or l.marks k false || is_below_in (market_lists l.self) (l.below - l._step) k l.at ≡ get_or l.fn.marks k false
      || is_below (market_lists l.self) k l.below;
}

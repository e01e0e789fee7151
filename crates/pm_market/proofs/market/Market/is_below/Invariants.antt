-- Of `Market::is_below`: what its loop over `step` keeps.
use Rattle.std.proofs.Common.{◌≡◌, ◌-◌}
use Rattle.pm_market.specs.Lists.{is_below_in}
use Rattle.pm_market.specs.Market.{market_lists}
use Rattle.pm_market.proofs.market.Market.is_below.Given as goal

abbrev pub invariant-loop-step : goal.invariant-loop-step
invariant-loop-step l = is_below_in (market_lists l.self) (l.below - l._step) l.node l.at ≡ is_below_in (market_lists l.self) l.below l.node l.below

-- Of `Market::child_at_or_above`: what its loop over `step` keeps.
use Rattle.std.proofs.Common.{◌≡◌, ◌-◌}
use Rattle.pm_market.proofs.Tree.{toward}
use Rattle.pm_market.specs.Lists.{child_at_or_above}
use Rattle.pm_market.specs.Market.{market_lists}
use Rattle.pm_market.proofs.market.Market.child_at_or_above.Given as goal

abbrev pub invariant-loop-step : goal.invariant-loop-step
invariant-loop-step l = toward (market_lists l.self) (l.below - l._step) l.node l.at ≡ child_at_or_above (market_lists l.self) l.node l.below

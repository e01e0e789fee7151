-- Of `Market::is_idle`: what its loop over `before` keeps.
use Rattle.std.proofs.Common.{◌≡◌, true}
use Rattle.pm_market.specs.State.{all_to}
use Rattle.pm_market.specs.Legality.{is_idle_at}
use Rattle.pm_market.specs.Market.{market_lists, market_state}
use Rattle.pm_market.proofs.market.Market.is_idle.Given as goal

abbrev pub invariant-loop-before : goal.invariant-loop-before
invariant-loop-before l = all_to l.before (is_idle_at (market_lists l.self) (market_state l.self)) ≡ true

-- Of `Market::last_join`: what its loop over `back` keeps.
use Rattle.std.proofs.Common.{◌≡◌, ◌-◌}
use Rattle.pm_market.specs.Held.{last_join}
use Rattle.pm_market.specs.Market.{market_lists}
use Rattle.pm_market.proofs.market.Market.last_join.Given as goal

abbrev pub invariant-loop-back : goal.invariant-loop-back
invariant-loop-back l = last_join (market_lists l.self) l.device (l.changes - l.back) ≡ last_join (market_lists l.self) l.device l.changes

-- Of `Market::greatest_number`: what its loop over `back` keeps.
use Rattle.std.proofs.Common.{◌≡◌, ◌-◌}
use Rattle.pm_market.specs.State.{greatest_number}
use Rattle.pm_market.specs.Market.{market_lists, market_state}
use Rattle.pm_base.specs.Cuts.{cut_of}
use Rattle.pm_market.proofs.market.Market.greatest_number.Given as goal

abbrev pub invariant-loop-back : goal.invariant-loop-back
invariant-loop-back l =
    greatest_number (market_lists l.self) ((market_state l.self).published l.node) l.node (cut_of l.cut) (l.newest - l.back)
    ≡ greatest_number (market_lists l.self) ((market_state l.self).published l.node) l.node (cut_of l.cut) l.newest

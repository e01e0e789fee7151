-- Of `Market::are_made`: what its loop over `before` keeps.
use Rattle.std.proofs.Common.{◌≡◌, true, cond, eqb}
use Rattle.pm_market.specs.Lists.{is_leaf, end_count}
use Rattle.pm_market.specs.State.{all_to}
use Rattle.pm_market.specs.Market.{market_lists, market_state}
use Rattle.pm_market.proofs.market.Market.are_made.Given as goal

abbrev pub invariant-loop-before : goal.invariant-loop-before
invariant-loop-before l = all_to l.before (λ d. cond (is_leaf (market_lists l.self) d)
    (eqb ((market_state l.self).counts d) (end_count (market_lists l.self) l.phase d)) true) ≡ true

-- Of `Market::is_same_on`: what its loop over `before` keeps.
use Rattle.std.proofs.Common.{◌≡◌, true, cond, eqb}
use Rattle.pm_market.specs.State.{all_to}
use Rattle.pm_market.specs.Lists.{is_leaf_of}
use Rattle.pm_market.specs.Market.{market_lists}
use Rattle.pm_base.specs.Cuts.{cut_of}
use Rattle.pm_market.proofs.market.Market.is_same_on.Given as goal

abbrev pub invariant-loop-before : goal.invariant-loop-before
invariant-loop-before l = all_to l.before (λ d. cond (is_leaf_of (market_lists l.self) l.node d) (eqb (cut_of l.one d) (cut_of l.other d)) true) ≡ true

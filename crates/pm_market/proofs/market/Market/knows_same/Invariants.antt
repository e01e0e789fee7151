-- Of `Market::knows_same`: what its loop over `before` keeps.
use Rattle.std.proofs.Common.{◌≡◌, true, cond, eqb, length}
use Rattle.pm_market.specs.State.{all_to, knowledge, cut_at}
use Rattle.pm_market.specs.Lists.{is_leaf_of}
use Rattle.pm_market.specs.Market.{market_lists, market_state}
use Rattle.pm_market.proofs.market.Market.knows_same.Given as goal

abbrev pub invariant-loop-before : goal.invariant-loop-before
invariant-loop-before l = all_to l.before (λ d. cond (is_leaf_of (market_lists l.self) l.node d)
    (eqb (knowledge (market_lists l.self) (market_state l.self) l.node d)
    (cut_at ((market_state l.self).published l.node) (length ((market_state l.self).published l.node)) d)) true) ≡ true

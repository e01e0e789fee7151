-- Of `Market::knows_same`: what it ensures.
use Rattle.std.proofs.Common.{sym, ◌∙◌, arith}
use Rattle.pm_market.specs.State.{is_same_on}
use Rattle.pm_market.proofs.Loops.{all_to_stops}
use Rattle.pm_market.proofs.market.Market.knows_same.Goals as goal

pub returns-then-not-knows_same_at : goal.returns-then-not-knows_same_at
unfolding is_same_on
returns-then-not-knows_same_at c = all_to_stops _ _ _ c.loop-before.invariant (omega arith) (sym c.knows_same_at.ensures ∙ c.if-not-knows_same_at.true)

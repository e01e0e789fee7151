-- Of `Market::is_same_on`: what it ensures.
use Rattle.std.proofs.Common.{sym, ◌∙◌, arith}
use Rattle.pm_market.specs.State.{is_same_on}
use Rattle.pm_market.proofs.Loops.{all_to_stops}
use Rattle.pm_market.proofs.market.Market.is_same_on.Goals as goal

pub returns-then-not-is_same_at : goal.returns-then-not-is_same_at
unfolding is_same_on
returns-then-not-is_same_at c = all_to_stops _ _ _ c.loop-before.invariant (omega arith) (sym c.is_same_at.ensures ∙ c.if-not-is_same_at.true)

-- Of `Market::are_made`: what it ensures.
use Rattle.std.proofs.Common.{sym, ◌∙◌, arith}
use Rattle.pm_market.specs.Legality.{are_made}
use Rattle.pm_market.proofs.Loops.{all_to_stops}
use Rattle.pm_market.proofs.market.Market.are_made.Goals as goal

pub returns-then-not-is_made_at : goal.returns-then-not-is_made_at
unfolding are_made
returns-then-not-is_made_at c = all_to_stops _ _ _ c.loop-before.invariant (omega arith) (sym c.is_made_at.ensures ∙ c.if-not-is_made_at.true)

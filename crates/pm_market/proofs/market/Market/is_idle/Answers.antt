-- Of `Market::is_idle`: what it ensures.
use Rattle.std.proofs.Common.{sym, ◌∙◌, arith}
use Rattle.pm_market.specs.Legality.{is_idle}
use Rattle.pm_market.proofs.Loops.{all_to_stops, fails_beside}
use Rattle.pm_market.proofs.market.Market.is_idle.Goals as goal

pub returns-then-not-is_idle_at : goal.returns-then-not-is_idle_at
unfolding is_idle
returns-then-not-is_idle_at c =
    fails_beside _ _ (all_to_stops _ _ _ c.loop-before.invariant (omega arith) (sym c.is_idle_at.ensures ∙ c.if-not-is_idle_at.true))

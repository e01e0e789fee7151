-- Of `Market::child_at_or_above`: what it ensures.
use Rattle.std.proofs.Common.{arith}
use Rattle.pm_market.proofs.Loops.{toward_last}
use Rattle.pm_market.proofs.market.Market.child_at_or_above.Goals as goal

pub returns : goal.returns
returns c = grind (arith, toward_last)

-- Of `Market::is_below`: the turns of its loop over `step`.
use Rattle.std.proofs.Common.{arith}
use Rattle.pm_market.proofs.Loops.{below_step}
use Rattle.pm_market.proofs.market.Market.is_below.Goals as goal

pub loop-step-preserved : goal.loop-step-preserved
loop-step-preserved c = grind (arith, below_step)

-- Of `Market::greatest_number`: what it ensures; the turns of its loop over `back`.
use Rattle.std.proofs.Common.{rules, arith}
use Rattle.pm_market.proofs.Loops.{greatest_turns}
use Rattle.pm_market.specs.State.{greatest_number}
use Rattle.pm_market.proofs.market.Market.greatest_number.Goals as goal

pub returns-then-is_published_as : goal.returns-then-is_published_as
unfolding greatest_number
returns-then-is_published_as c = search rules

pub loop-back-preserved : goal.loop-back-preserved
unfolding greatest_number
loop-back-preserved c = grind (arith, greatest_turns)

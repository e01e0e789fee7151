-- Of `fill_from_array`: what it ensures.
use Rattle.std.proofs.Common.{arith}
use Rattle.pm_strategy.proofs.BidLaws.{array_of_number}
use Rattle.pm_strategy.proofs.bid.fill_from_array.Goals as goal

pub returns : goal.returns
returns c = grind (arith, array_of_number)

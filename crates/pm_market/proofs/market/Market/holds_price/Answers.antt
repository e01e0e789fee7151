-- Of `Market::holds_price`: what it ensures.
use Rattle.std.proofs.Common.{arith}
use Rattle.std.proofs.lemmas.Bool.Decides.{nat_tests}
use Rattle.pm_market.specs.Held.{holds_price}
use Rattle.pm_market.proofs.market.Market.holds_price.Goals as goal

pub returns-then-is_member : goal.returns-then-is_member
unfolding holds_price
returns-then-is_member c = grind (arith, nat_tests)

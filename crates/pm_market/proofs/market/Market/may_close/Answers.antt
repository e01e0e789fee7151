-- Of `Market::may_close`: what it ensures.
use Rattle.std.proofs.Common.{arith}
use Rattle.std.proofs.lemmas.Grind.{common_steps}
use Rattle.pm_market.specs.Legality.{close_is_legal}
use Rattle.pm_market.proofs.market.Market.may_close.Goals as goal

pub returns-then-are_made : goal.returns-then-are_made
unfolding close_is_legal
returns-then-are_made c = grind (arith, common_steps)

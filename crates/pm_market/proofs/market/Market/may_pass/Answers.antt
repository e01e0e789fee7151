-- Of `Market::may_pass`: what it ensures.
use Rattle.std.proofs.Common.{arith}
use Rattle.std.proofs.lemmas.Bool.Decides.{nat_tests}
use Rattle.pm_market.specs.Legality.{pass_is_legal}
use Rattle.pm_market.proofs.market.Market.may_pass.Goals as goal

pub returns-then-is_addressed : goal.returns-then-is_addressed
unfolding pass_is_legal
returns-then-is_addressed c = grind (arith, nat_tests)

pub returns-else-is_addressed : goal.returns-else-is_addressed
unfolding pass_is_legal
returns-else-is_addressed c = grind (arith, nat_tests)

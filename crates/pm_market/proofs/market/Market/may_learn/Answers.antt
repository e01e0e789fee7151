-- Of `Market::may_learn`: what it ensures.
use Rattle.std.proofs.Common.{arith}
use Rattle.std.proofs.lemmas.Bool.Decides.{nat_tests}
use Rattle.pm_market.specs.Legality.{learn_is_legal}
use Rattle.pm_market.proofs.market.Market.may_learn.Goals as goal

pub returns-then-learnt-number : goal.returns-then-learnt-number
unfolding learn_is_legal
returns-then-learnt-number c = grind (arith, nat_tests)

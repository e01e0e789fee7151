-- Of `cost_of`: what it ensures.
use Rattle.std.proofs.Common.{arith}
use Rattle.std.proofs.lemmas.Grind.{common_steps}
use Rattle.pm_bill.proofs.account.cost_of.Goals as goal

pub returns : goal.returns
returns c = grind (arith, common_steps)

-- Of `push_ends`: what it ensures.
use Rattle.std.proofs.Common.{arith}
use Rattle.std.proofs.lemmas.Grind.{common_steps}
use Rattle.pm_ask.proofs.text.push_ends.Goals as goal

pub returns : goal.returns
returns c = grind (arith, common_steps)

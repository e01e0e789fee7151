-- Of `last_end`: what it ensures.
use Rattle.std.proofs.Common.{arith}
use Rattle.std.proofs.lemmas.Grind.{common_steps}
use Rattle.pm_report.proofs.summary.last_end.Goals as goal

pub returns : goal.returns
returns c = grind (arith, common_steps)

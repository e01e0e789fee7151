-- Of `push_phase`: what it ensures.
use Rattle.std.proofs.Common.{arith}
use Rattle.std.proofs.lemmas.Grind.{common_steps}
use Rattle.pm_report.specs.Report.{phase_text}
use Rattle.pm_report.proofs.report.push_phase.Goals as goal

pub returns : goal.returns
unfolding phase_text
returns c = grind (arith, common_steps)

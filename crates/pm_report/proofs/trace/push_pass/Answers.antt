-- Of `push_pass`: what it ensures.
use Rattle.std.proofs.Common.{rules}
use Rattle.pm_report.proofs.trace.push_pass.Goals as goal

pub returns-in-Some : goal.returns-in-Some
returns-in-Some c = search rules

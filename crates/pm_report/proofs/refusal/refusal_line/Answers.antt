-- Of `refusal_line`: what it ensures.
use Rattle.std.proofs.Common.{rules}
use Rattle.pm_report.proofs.refusal.refusal_line.Goals as goal

pub returns : goal.returns
returns c = search rules

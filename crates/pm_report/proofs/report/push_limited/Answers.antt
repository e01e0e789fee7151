-- Of `push_limited`: what it ensures.
use Rattle.std.proofs.Common.{rules}
use Rattle.pm_report.proofs.report.push_limited.Goals as goal

pub returns : goal.returns
returns c = search rules

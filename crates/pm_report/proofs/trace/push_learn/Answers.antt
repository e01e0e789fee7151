-- Of `push_learn`: what it ensures.
use Rattle.std.proofs.Common.{rules}
use Rattle.pm_report.proofs.trace.push_learn.Goals as goal

pub returns : goal.returns
returns c = search rules

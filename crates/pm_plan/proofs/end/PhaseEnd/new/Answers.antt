-- Of `PhaseEnd::new`: what it ensures.
use Rattle.std.proofs.Common.{rules}
use Rattle.pm_plan.proofs.end.PhaseEnd.new.Goals as goal

pub returns : goal.returns
returns c = search rules

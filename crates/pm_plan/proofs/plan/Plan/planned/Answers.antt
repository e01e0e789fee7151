-- Of `Plan::planned`: what it ensures.
use Rattle.std.proofs.Common.{rules}
use Rattle.pm_plan.proofs.plan.Plan.planned.Goals as goal

pub returns : goal.returns
returns c = search rules

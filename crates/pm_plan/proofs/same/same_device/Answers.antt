-- Of `same_device`: what it ensures.
use Rattle.std.proofs.Common.{rules}
use Rattle.pm_plan.proofs.same.same_device.Goals as goal

pub returns-then-start : goal.returns-then-start
returns-then-start c = search rules

-- Of `Device::tick`: what it ensures.
use Rattle.std.proofs.Common.{rules}
use Rattle.pm_plan.proofs.node.Device.tick.Goals as goal

pub returns-in_ok-plan : goal.returns-in_ok-plan
returns-in_ok-plan c = search rules

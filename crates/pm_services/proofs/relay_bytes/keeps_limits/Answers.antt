-- Of `keeps_limits`: what it ensures.
use Rattle.pm_services.proofs.Within.{decided}
use Rattle.pm_services.proofs.relay_bytes.keeps_limits.Goals as goal

pub returns : goal.returns
returns c = decided _ _ c.has_step_within.result c.has_step_within.ensures

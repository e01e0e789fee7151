-- Of `a_deep_system_settles`: what it ensures.
use Rattle.pm_system.proofs.DeepEnd.{settles}
use Rattle.pm_system.proofs.a_deep_system_settles.Goals as goal

pub returns : goal.returns
returns c = settles c.agents_come_back.ensures

-- Of `processes_may_be_asked`: what it ensures.
use Rattle.pm_live.proofs.Processes.{asks_node}
use Rattle.pm_live.proofs.law.processes_may_be_asked.Goals as goal

pub returns : goal.returns
returns g c node old asks = asks_node _ _ _ _ _ node old asks

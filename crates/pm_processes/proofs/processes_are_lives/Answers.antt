-- Of `processes_are_lives`: its clauses.
use Rattle.pm_processes.proofs.RelayRuns.{relay_process}
use Rattle.pm_processes.proofs.RootRuns.{root_process}
use Rattle.pm_processes.proofs.DeviceRuns.{device_process}
use Rattle.pm_processes.proofs.processes_are_lives.Goals as goal

pub returns-clause-relay : goal.returns-clause-relay
returns-clause-relay c child terms took wrote is = relay_process child terms took wrote is

pub returns-clause-root : goal.returns-clause-root
returns-clause-root c took wrote is = root_process took wrote is

pub returns-clause-device : goal.returns-clause-device
returns-clause-device c p child took wrote is = device_process p child took wrote is

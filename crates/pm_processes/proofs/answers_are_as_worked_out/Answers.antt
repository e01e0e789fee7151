-- Of `answers_are_as_worked_out`: its clauses.
use Rattle.pm_processes.proofs.RelayRows.{relay_rows}
use Rattle.pm_processes.proofs.RootRows.{root_rows}
use Rattle.pm_processes.proofs.DeviceRows.{frame_rows, device_rows}
use Rattle.pm_processes.proofs.answers_are_as_worked_out.Goals as goal

pub returns-clause-frames : goal.returns-clause-frames
returns-clause-frames c = frame_rows

pub returns-clause-relay : goal.returns-clause-relay
returns-clause-relay c = relay_rows

pub returns-clause-auctioneer : goal.returns-clause-auctioneer
returns-clause-auctioneer c = root_rows

pub returns-clause-device : goal.returns-clause-device
returns-clause-device c = device_rows

-- Of `what_is_handled_was_written`: its clauses.
use Rattle.pm_processes.proofs.Handled.{relay_handles_nothing, root_handles_nothing, device_handles_nothing}
use Rattle.pm_processes.proofs.what_is_handled_was_written.Goals as goal

pub returns-clause-relay : goal.returns-clause-relay
returns-clause-relay c lists p numbering old new node left did = relay_handles_nothing lists p numbering old new node left did

pub returns-clause-root : goal.returns-clause-root
returns-clause-root c lists p numbering old new left did = root_handles_nothing lists p numbering old new left did

pub returns-clause-device : goal.returns-clause-device
returns-clause-device c lists p numbering old new d left did = device_handles_nothing lists p numbering old new d left did

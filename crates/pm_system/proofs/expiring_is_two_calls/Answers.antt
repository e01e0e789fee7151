-- Of `expiring_is_two_calls`: its clauses.
use Rattle.pm_system.proofs.Expiring.{relay_expires, root_expires}
use Rattle.pm_system.proofs.expiring_is_two_calls.Goals as goal

pub returns-clause-relay : goal.returns-clause-relay
returns-clause-relay c lists p numbering calls sys new d market has did = relay_expires lists p numbering calls sys new d market has did

pub returns-clause-root : goal.returns-clause-root
returns-clause-root c lists p numbering calls sys new d market has did = root_expires lists p numbering calls sys new d market has did

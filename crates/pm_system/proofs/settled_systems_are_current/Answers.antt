-- Of `settled_systems_are_current`: its clauses.
use Rattle.pm_system.specs.Settled.{numbers_counted}
use Rattle.pm_system.proofs.Flow.{flows_told}
use Rattle.pm_system.proofs.Settling.{current, current_reached, current_told, current_taken}
use Rattle.pm_system.proofs.settled_systems_are_current.Goals as goal

pub returns-clause-current : goal.returns-clause-current
returns-clause-current c lists p numbering calls sys market has quiet = current lists p numbering market calls sys has quiet

pub returns-clause-reached : goal.returns-clause-reached
returns-clause-reached c lists p numbering calls sys market has quiet = current_reached lists p numbering market calls sys has quiet

pub returns-clause-told : goal.returns-clause-told
returns-clause-told c lists p numbering calls sys market has quiet = current_told lists p numbering market calls sys has quiet

pub returns-clause-taken : goal.returns-clause-taken
returns-clause-taken c lists p numbering calls sys market has quiet = current_taken lists p numbering market calls sys has quiet

pub returns-clause-flows : goal.returns-clause-flows
returns-clause-flows c lists p numbering sys market = flows_told lists p numbering market sys (numbers_counted lists numbering sys)

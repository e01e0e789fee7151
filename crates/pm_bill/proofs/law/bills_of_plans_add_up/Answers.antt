-- Of `bills_of_plans_add_up`: its clauses `adds_up` and `device`.
use Rattle.pm_bill.specs.Runs.{tick_phases}
use Rattle.pm_bill.proofs.AddingUp.{account-device, bills_add_up}
use Rattle.pm_bill.proofs.law.bills_of_plans_add_up.Goals as goal

pub returns-clause-adds_up : goal.returns-clause-adds_up
returns-clause-adds_up c plan is = bills_add_up plan is

pub returns-clause-device : goal.returns-clause-device
returns-clause-device c plan d is leaf = account-device plan is (tick_phases plan) d leaf

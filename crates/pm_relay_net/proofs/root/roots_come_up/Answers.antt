-- Of `roots_come_up`: its clauses.
use Rattle.pm_relay_net.proofs.RootComingUp.{first_up, back_up}
use Rattle.pm_relay_net.proofs.root.roots_come_up.Goals as goal

pub returns-clause-first : goal.returns-clause-first
returns-clause-first c lists p numbering r is back = first_up lists p numbering is r back

pub returns-clause-again : goal.returns-clause-again
returns-clause-again c lists p numbering net k old new is was back = back_up lists p numbering is net k old new was.matches back

-- Of `relays_come_up`: its clauses.
use Rattle.pm_relay_net.proofs.ComingUp.{first_up, back_up}
use Rattle.pm_relay_net.proofs.relay.relays_come_up.Goals as goal

pub returns-clause-first : goal.returns-clause-first
returns-clause-first c lists p numbering limits y r is alike limited back = first_up lists p numbering is alike limits y r limited back

pub returns-clause-again : goal.returns-clause-again
returns-clause-again c lists p numbering net limits under y k old new is alike limited was under_is within back =
    back_up lists p numbering is alike net limits under y k old new limited was.matches under_is within back

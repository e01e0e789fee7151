-- Of `relays_send`: its clauses.
use Rattle.pm_relay_net.proofs.Sending as sending
use Rattle.pm_relay_net.proofs.relay.relays_send.Goals as goal

pub returns-clause-sends : goal.returns-clause-sends
returns-clause-sends c lists p numbering net s y number old new law is adds agrees conc was did =
    sending.sends lists law p numbering is net s agrees y conc old was adds new number did

pub returns-clause-stops : goal.returns-clause-stops
returns-clause-stops c lists p numbering net s y number old new law is adds agrees alike conc was did =
    sending.stops lists law p numbering is net s agrees y conc old was adds new number did alike

pub returns-clause-refuses : goal.returns-clause-refuses
returns-clause-refuses c lists p numbering net s y r fault law is agrees conc was why =
    sending.refuses lists law p numbering is net s agrees y conc r was fault why

pub returns-clause-again : goal.returns-clause-again
returns-clause-again c lists p numbering net y r conc was some = sending.sends_again lists p numbering net y r conc was.matches some

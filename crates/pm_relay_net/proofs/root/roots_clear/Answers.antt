-- Of `roots_clear`: its clauses.
use Rattle.pm_relay_net.proofs.RootClearing as clearing
use Rattle.pm_relay_net.proofs.root.roots_clear.Goals as goal

pub returns-clause-clears : goal.returns-clause-clears
returns-clause-clears c lists p numbering net index step old new is adds was did =
    clearing.clears lists p numbering is net old was adds new index step did

pub returns-clause-stops : goal.returns-clause-stops
returns-clause-stops c lists p numbering net index step old new is adds was did =
    clearing.stops lists p numbering is net old was adds new index step did

pub returns-clause-refuses : goal.returns-clause-refuses
returns-clause-refuses c lists p numbering net r fault is was why = clearing.refuses lists p numbering is net r was fault why

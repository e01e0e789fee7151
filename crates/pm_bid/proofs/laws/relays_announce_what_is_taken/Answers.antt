-- Of `relays_announce_what_is_taken`: its clauses are lemmas of `Taken`.
use Rattle.pm_bid.proofs.Taken as taken
use Rattle.pm_bid.proofs.laws.relays_announce_what_is_taken.Goals as goal

pub returns-clause-steps : goal.returns-clause-steps
returns-clause-steps c = taken.announced-length

pub returns-clause-taken : goal.returns-clause-taken
returns-clause-taken c = taken.announced-taken

pub returns-clause-small : goal.returns-clause-small
returns-clause-small c = taken.announced-small

pub returns-clause-falls : goal.returns-clause-falls
returns-clause-falls c = taken.announced-falls

pub returns-clause-within : goal.returns-clause-within
returns-clause-within c = taken.announced-within

pub returns-clause-unbound : goal.returns-clause-unbound
returns-clause-unbound c = taken.announced-unbound

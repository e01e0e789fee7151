-- Of `hear_bid`: its clauses `heard`, `entries` and `moves`.
use Rattle.std.proofs.Common.{refl}
use Rattle.pm_phase.proofs.Heard.{heard_entries, no_entries}
use Rattle.pm_phase.proofs.Moves.{heard_moves, no_moves}
use Rattle.pm_phase.proofs.hearing.hear_bid.Goals as goal

pub returns-in-Some-clause-heard : goal.returns-in-Some-clause-heard
returns-in-Some-clause-heard c =
    (c.in-Some.bid, c.in-Some.ensures.taken, record { learnt = c.learn.ensures.learnt; dropped = c.learn.ensures.dropped })

pub returns-in-Some-clause-entries : goal.returns-in-Some-clause-entries
returns-in-Some-clause-entries c =
    heard_entries c.args.place c.in-Some.bid _ _ _ _ c.in-Some.ensures.taken c.learn.ensures.either

pub returns-in-Some-clause-moves : goal.returns-in-Some-clause-moves
returns-in-Some-clause-moves c =
    heard_moves c.args.place c.in-Some.bid _ _ _ _ c.take_bid_from_child.ensures.place c.in-Some.ensures.taken c.learn.ensures.either

pub returns-in-None-clause-heard : goal.returns-in-None-clause-heard
returns-in-None-clause-heard c = (c.in-None.ensures.taken, refl)

pub returns-in-None-clause-entries : goal.returns-in-None-clause-entries
returns-in-None-clause-entries c = no_entries c.args.place _ _ _ _ c.in-None.ensures.taken refl

pub returns-in-None-clause-moves : goal.returns-in-None-clause-moves
returns-in-None-clause-moves c = no_moves c.args.place _ _ _ _ c.take_bid_from_child.ensures.place c.in-None.ensures.taken refl

-- The laws of rounds.
use Rattle.pm_rounds.proofs.Rounds.{rounds_quiet, rounds_held, run_settles}
use Rattle.pm_rounds.proofs.InTime.{settles_in_time}
use Rattle.pm_rounds.proofs.Cleared.{cleared_in_time}
use Rattle.pm_rounds.proofs.RoundsExist.{so_many, are_rounds}
use Rattle.pm_rounds.proofs.Stopping.{full_settles}
use Rattle.pm_rounds.proofs.rounds_settle.Goals as goal

pub returns-clause-settles : goal.returns-clause-settles
returns-clause-settles c lists p net s rounds law one by agrees sent are many =
    (rounds_quiet lists law one p by net s rounds agrees sent are many).settled

pub returns-clause-held : goal.returns-clause-held
returns-clause-held c lists p net s rounds d law one by agrees sent are many leaf member =
    rounds_held lists law one p by net s rounds agrees sent are many d leaf member

pub returns-clause-run : goal.returns-clause-run
returns-clause-run c lists p events rounds law one by all are many = run_settles lists law one p by events rounds all are many

pub returns-clause-in_time : goal.returns-clause-in_time
returns-clause-in_time c lists p net s depth rounds law one by deep agrees sent are room many =
    settles_in_time lists law one p by depth deep rounds net s agrees sent are room many

pub returns-clause-cleared_in_time : goal.returns-clause-cleared_in_time
returns-clause-cleared_in_time c lists p net s t depth d rounds law one by deep agrees sent are room many after leaf =
    cleared_in_time lists law one p by depth deep rounds net s t agrees sent are room many after d leaf

pub returns-clause-stopped : goal.returns-clause-stopped
returns-clause-stopped c lists p net s rounds law one by agrees can are many = full_settles lists law one p by net s rounds agrees can are many

pub returns-clause-there_are : goal.returns-clause-there_are
returns-clause-there_are c lists p net n =
    let some = so_many lists p n net in
    (some.0, are_rounds lists p some.0 net some.1, some.1, some.2)

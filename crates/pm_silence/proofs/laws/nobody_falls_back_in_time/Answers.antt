-- Of `nobody_falls_back_in_time`: its clauses `holds` and `counts`.
use Rattle.pm_silence.proofs.Timely.{timely_holds, timely_counts}
use Rattle.pm_silence.proofs.laws.nobody_falls_back_in_time.Goals as goal

pub returns-clause-holds : goal.returns-clause-holds
returns-clause-holds c clock S since e validity gap delay used n t fast rhythm come first last room =
    timely_holds clock S since e validity gap delay used n t fast rhythm come first last room

pub returns-clause-counts : goal.returns-clause-counts
returns-clause-counts c clock S place e grace gap delay n t fast rhythm come first last room =
    timely_counts clock S place e grace gap delay n t fast rhythm come first last room

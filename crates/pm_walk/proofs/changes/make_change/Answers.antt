-- Of `make_change`: its clauses `count` and `state`.
use Rattle.std.proofs.Common.{rules}
use Rattle.pm_walk.proofs.changes.make_change.Goals as goal

pub returns-clause-count : goal.returns-clause-count
returns-clause-count c = search rules

pub returns-clause-state : goal.returns-clause-state
returns-clause-state c = search rules

-- Of `clearing_keeps_the_market`: its clauses `made`, `condition` and `nothing`.
use Rattle.pm_stands.proofs.MoveLaws.{clearing_made, clearing_condition, clearing_nothing}
use Rattle.pm_stands.proofs.moves.clearing_keeps_the_market.Goals as goal

pub returns-clause-made : goal.returns-clause-made
returns-clause-made c = clearing_made

pub returns-clause-condition : goal.returns-clause-condition
returns-clause-condition c = clearing_condition

pub returns-clause-nothing : goal.returns-clause-nothing
returns-clause-nothing c = clearing_nothing

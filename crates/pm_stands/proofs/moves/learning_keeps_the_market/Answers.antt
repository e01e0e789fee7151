-- Of `learning_keeps_the_market`: its clauses `made`, `condition` and `nothing`.
use Rattle.pm_stands.proofs.MoveLaws.{learning_made, learning_condition, learning_nothing}
use Rattle.pm_stands.proofs.moves.learning_keeps_the_market.Goals as goal

pub returns-clause-made : goal.returns-clause-made
returns-clause-made c = learning_made

pub returns-clause-condition : goal.returns-clause-condition
returns-clause-condition c = learning_condition

pub returns-clause-nothing : goal.returns-clause-nothing
returns-clause-nothing c = learning_nothing

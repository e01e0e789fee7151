-- Of `publishing_keeps_the_market`: its clauses `made`, `condition` and `nothing`.
use Rattle.pm_stands.proofs.MoveLaws.{publishing_made, publishing_condition, publishing_nothing}
use Rattle.pm_stands.proofs.moves.publishing_keeps_the_market.Goals as goal

pub returns-clause-made : goal.returns-clause-made
returns-clause-made c = publishing_made

pub returns-clause-condition : goal.returns-clause-condition
returns-clause-condition c = publishing_condition

pub returns-clause-nothing : goal.returns-clause-nothing
returns-clause-nothing c = publishing_nothing

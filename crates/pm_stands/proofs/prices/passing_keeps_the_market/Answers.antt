-- Of `passing_keeps_the_market`: its clauses `condition` and `nothing`.
use Rattle.pm_stands.proofs.MayPass.{pass_condition, pass_nothing}
use Rattle.pm_stands.proofs.prices.passing_keeps_the_market.Goals as goal

pub returns-clause-condition : goal.returns-clause-condition
returns-clause-condition c = pass_condition

pub returns-clause-nothing : goal.returns-clause-nothing
returns-clause-nothing c = pass_nothing

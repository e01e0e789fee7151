-- Of `states_fit`: its clauses `within` and `powers`.
use Rattle.pm_plan.proofs.PublicLaws.{within, powers}
use Rattle.pm_plan.proofs.laws.states_fit.Goals as goal

pub returns-clause-within : goal.returns-clause-within
returns-clause-within c = λ plan d n planned is here inside. within plan d n planned is here inside

pub returns-clause-powers : goal.returns-clause-powers
returns-clause-powers c = λ plan cut d is inside. powers plan cut d is inside

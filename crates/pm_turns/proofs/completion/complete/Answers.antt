-- Of `complete`: its clauses `plan` and `settled`.
use Rattle.std.proofs.Common.{rules}
use Rattle.pm_turns.proofs.completion.complete.Goals as goal

pub returns-clause-plan : goal.returns-clause-plan
returns-clause-plan g c = search rules

pub returns-clause-settled : goal.returns-clause-settled
returns-clause-settled g c = search rules

-- Of `clearings_fall_due`: its clauses `published` and `cleared`.
use Rattle.pm_laws.proofs.MoveLaws.{due_published, due_cleared}
use Rattle.pm_laws.proofs.moves.clearings_fall_due.Goals as goal

pub returns-clause-published : goal.returns-clause-published
returns-clause-published c lists s y n x j concentrator = due_published lists s y n x j concentrator

pub returns-clause-cleared : goal.returns-clause-cleared
returns-clause-cleared c lists s k x j law sound legal = due_cleared lists s k x j law sound legal

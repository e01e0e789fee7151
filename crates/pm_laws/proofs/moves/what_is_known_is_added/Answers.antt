-- Of `what_is_known_is_added`: its clauses `published` and `cleared`.
use Rattle.pm_laws.proofs.MoveLaws.{publishing, clearing}
use Rattle.pm_laws.proofs.moves.what_is_known_is_added.Goals as goal

pub returns-clause-published : goal.returns-clause-published
returns-clause-published c lists s y n law sound legal = publishing lists s y n law sound legal

pub returns-clause-cleared : goal.returns-clause-cleared
returns-clause-cleared c lists s j law sound legal = clearing lists s j law sound legal

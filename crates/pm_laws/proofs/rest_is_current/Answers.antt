-- Of `rest_is_current`: its clauses `idle`, `counts`, `passed` and `windows`.
use Rattle.pm_laws.proofs.Quiet.{idle_rests, rest_counts, rest_passed, rest_window}
use Rattle.pm_laws.proofs.rest_is_current.Goals as goal

pub returns-clause-idle : goal.returns-clause-idle
returns-clause-idle c lists s idle = idle_rests lists s idle

pub returns-clause-counts : goal.returns-clause-counts
returns-clause-counts c lists s law sound rest = rest_counts lists law s sound rest

pub returns-clause-passed : goal.returns-clause-passed
returns-clause-passed c lists s law sound rest = rest_passed lists law s sound rest

pub returns-clause-windows : goal.returns-clause-windows
returns-clause-windows c lists s law sound rest = rest_window lists law s sound rest

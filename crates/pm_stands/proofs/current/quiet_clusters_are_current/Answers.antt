-- Of `quiet_clusters_are_current`: its clause `current`.
use Rattle.pm_stands.proofs.AllCurrent.{quiet_current}
use Rattle.pm_stands.proofs.current.quiet_clusters_are_current.Goals as goal

pub returns-clause-current : goal.returns-clause-current
returns-clause-current c = quiet_current

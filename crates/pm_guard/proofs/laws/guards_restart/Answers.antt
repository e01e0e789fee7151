-- Of `guards_restart`: what it ensures.
use Rattle.pm_guard.proofs.Kept.{restart_known}
use Rattle.pm_guard.proofs.Further.{inside_hull}
use Rattle.pm_guard.proofs.laws.guards_restart.Goals as goal

pub returns-clause-known : goal.returns-clause-known
returns-clause-known c depth feeder held knows are = restart_known depth feeder held knows are

pub returns-clause-told : goal.returns-clause-told
returns-clause-told c guard child low high inside above below = inside_hull guard child low high inside above below

-- Of `can_publish`: what it ensures.
use Rattle.std.proofs.Common.{rules}
use Rattle.pm_cluster.proofs.quiet.can_publish.Goals as goal

pub returns-then-changed : goal.returns-then-changed
returns-then-changed c = search rules

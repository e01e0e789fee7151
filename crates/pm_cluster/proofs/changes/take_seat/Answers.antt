-- Of `take_seat`: what it ensures.
use Rattle.std.proofs.Common.{rules}
use Rattle.pm_cluster.proofs.changes.take_seat.Goals as goal

pub returns-then-not-next : goal.returns-then-not-next
returns-then-not-next c = search rules

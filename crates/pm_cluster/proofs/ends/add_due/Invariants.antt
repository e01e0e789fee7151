-- Of `add_due`: what its loop over `number` keeps.
use Rattle.pm_cluster.proofs.DueMore.{IsDueTo}
use Rattle.pm_cluster.proofs.ends.add_due.Given as goal

abbrev pub invariant-loop-number : goal.invariant-loop-number
invariant-loop-number l = IsDueTo l.plan l.closed l.number l.fn.due.items l.due.items

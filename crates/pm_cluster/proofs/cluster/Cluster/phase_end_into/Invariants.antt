-- Of `Cluster::phase_end_into`: what its loop over `number` keeps.
use Rattle.pm_cluster.proofs.LinesTold.{IsEndTo}
use Rattle.pm_cluster.proofs.cluster.Cluster.phase_end_into.Given as goal

abbrev pub invariant-loop-number : goal.invariant-loop-number
invariant-loop-number l = IsEndTo l.fn.self.plan l.fn.self.core l.number l.initial.out.end l.out

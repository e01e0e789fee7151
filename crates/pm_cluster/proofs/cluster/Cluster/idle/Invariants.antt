-- Of `Cluster::idle`: what its loop over `number` keeps.
use Rattle.std.proofs.Common.{ℕ, ◌<◌}
use Rattle.pm_cluster.specs.Waiting.{IsAtRest}
use Rattle.pm_cluster.proofs.cluster.Cluster.idle.Given as goal

abbrev pub invariant-loop-number : goal.invariant-loop-number
invariant-loop-number l = (x : ℕ) → x < l.number → IsAtRest l.self.plan l.self.core x

-- Of `Cluster::next_node`: what its loop over `number` keeps.
use Rattle.std.proofs.Common.{ℕ, ◌<◌}
use Rattle.pm_stands.specs.Still.{IsStill}
use Rattle.pm_cluster.proofs.cluster.Cluster.next_node.Given as goal

abbrev pub invariant-loop-number : goal.invariant-loop-number
invariant-loop-number l = (x : ℕ) → x < l.number → IsStill l.self.plan l.self.core x

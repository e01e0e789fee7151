-- Of `Cluster::act_each`: what its loop over `at` keeps.
use Rattle.std.proofs.Common.{◌≡◌, take}
use Rattle.pm_cluster.specs.Acts.{IsRunOf}
use Rattle.pm_cluster.proofs.cluster.Cluster.act_each.Given as goal

abbrev pub invariant-loop-at : goal.invariant-loop-at
invariant-loop-at l = record {
  same : l.self.plan ≡ l.fn.self.plan;
  run : IsRunOf l.fn.self.plan (take l.at l.acts) l.self.core l.journal.lines;
}

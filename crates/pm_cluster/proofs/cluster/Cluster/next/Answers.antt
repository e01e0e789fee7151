-- Of `Cluster::next`: that its numbers fit.
use Rattle.std.proofs.Common.{◌+◌, arith}
use Rattle.pm_cluster.proofs.DeviceFields.{count_read, due_in}
use Rattle.pm_cluster.proofs.DueMore.{few_due}
use Rattle.pm_cluster.proofs.Kept.{leaf_is_node}
use Rattle.pm_cluster.proofs.cluster.Cluster.next.Goals as goal

pub overflow_add-result : goal.overflow_add-result
overflow_add-result c =
    let plan = c.self.inside.plan.now in
    let d = c.args.device.0 in
    let due = due_in c.self.inside c.args.self.now c.self.view_is d c.in-Some.what c.in-Some.ensures.due in
    omega (
      arith,
      due.of_phase,
      count_read c.self.inside c.self.invariant c.args.self.now c.self.view_is d c.requires.leaf _ c.index.ensures,
      few_due plan c.self.invariant.is_plan (c.self.inside.closed + 1) d,
    )

pub index-requires : goal.index-requires
index-requires c =
    let node = leaf_is_node c.self.inside _ c.self.view_is c.self.invariant.is_plan c.args.device.0 c.requires.leaf in
    omega (arith, node.1, c.self.inside.counts.ok.0, c.self.invariant.places.all_counts)

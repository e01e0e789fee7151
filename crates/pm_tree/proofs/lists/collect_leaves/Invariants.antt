-- Of `collect_leaves`: what its loop over `number` keeps.
use Rattle.std.proofs.Common.{◌-◌, length}
use Rattle.pm_tree.specs.Shape.{leaves_among}
use Rattle.pm_tree.specs.Tables.{shape_parents, shape_leaves, AreLists, node_lists}
use Rattle.pm_tree.proofs.lists.collect_leaves.Given as goal

abbrev pub invariant-loop-number : goal.invariant-loop-number
invariant-loop-number l = AreLists (length l.nodes) (leaves_among (shape_parents l.nodes) (shape_leaves l.nodes) (l.number - 1)) (node_lists l.lists.items)

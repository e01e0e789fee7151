-- Of `collect_children`: what its loop over `number` keeps.
use Rattle.std.proofs.Common.{◌-◌, length}
use Rattle.pm_tree.specs.Shape.{children_among, place_at}
use Rattle.pm_tree.specs.Tables.{shape_parents, AreLists, AreNumbers, node_lists}
use Rattle.pm_tree.proofs.lists.collect_children.Given as goal

abbrev pub invariant-loop-number : goal.invariant-loop-number
invariant-loop-number l = record {
  lists : AreLists (length l.nodes) (children_among (shape_parents l.nodes) (l.number - 1)) (node_lists l.lists.items);
  places : AreNumbers l.number (place_at (shape_parents l.nodes)) l.places.items;
}

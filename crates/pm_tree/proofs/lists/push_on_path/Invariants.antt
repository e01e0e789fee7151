-- Of `push_on_path`: what its loop over `at` keeps.
use Rattle.std.proofs.Common.{◌≡◌, ◌<◌, ℕ, [], ◌++◌, length, get_or}
use Rattle.pm_tree.specs.Tables.{added_on_path, shape_parents, node_lists}
use Rattle.pm_tree.proofs.lists.push_on_path.Given as goal

abbrev pub invariant-loop-at : goal.invariant-loop-at
invariant-loop-at l = record {
  inside : l.at.0 < length l.nodes;
  one_each : length l.lists ≡ length l.nodes;
  rest : (node : ℕ) → get_or (node_lists l.lists) node [] ++ added_on_path (shape_parents l.nodes) l.leaf.0 l.at.0 node
      ≡ get_or (node_lists l.initial.lists) node [] ++ added_on_path (shape_parents l.nodes) l.leaf.0 l.leaf.0 node;
}

abbrev pub decreases-loop-at : goal.decreases-loop-at
decreases-loop-at l = l.at.0

-- Of `parts_of`: what its loop over `node` keeps.
use Rattle.std.proofs.Common.{◌≡◌, ◌++◌, length, map}
use Rattle.std.specs.Vec.Iter.{into_iter_items, into_iter_len}
use Rattle.pm_tree.specs.Entries.{entries_of}
use Rattle.pm_plan.specs.Parts.{node_part}
use Rattle.pm_scene.specs.Nodes.{named_part}
use Rattle.pm_scene.specs.Trees.{entries_in, parts_in}
use Rattle.pm_scene.proofs.tree.parts_of.Given as goal

abbrev pub invariant-loop-node : goal.invariant-loop-node
invariant-loop-node l = record {
  left : l.yielded ++ into_iter_items l.node-iterator ≡ into_iter_items l.initial.node-iterator;
  count : into_iter_len l.node-iterator ≡ length (into_iter_items l.node-iterator);
  entries : entries_of l.entries.items ≡ entries_in (map named_part l.yielded);
  parts : map node_part l.specs.items ≡ parts_in (map named_part l.yielded);
}

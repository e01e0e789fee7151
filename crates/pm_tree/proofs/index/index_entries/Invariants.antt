-- Of `index_entries`: what its loop over `place` keeps.
use Rattle.std.proofs.Common.{◌≡◌, [], map, take, string_bytes}
use Rattle.pm_tree.specs.Shape.{IsTree}
use Rattle.pm_tree.specs.Entries.{entries_of, parents_of, leaves_of, refusals_after}
use Rattle.pm_tree.specs.Tables.{IsIndexOf}
use Rattle.pm_tree.proofs.index.index_entries.Given as goal

abbrev pub invariant-loop-place : goal.invariant-loop-place
invariant-loop-place l = record {
  index : IsIndexOf (take l.place (entries_of l.entries)) (map string_bytes l.index.names.keys) l.index.nodes.items;
  lawful : IsTree (parents_of (take l.place (entries_of l.entries))) (leaves_of (take l.place (entries_of l.entries)));
  accepted : refusals_after [] (take l.place (entries_of l.entries)) ≡ [];
}

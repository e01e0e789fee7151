-- Of `empty_lists`: what lasts from turn to turn.
use Rattle.std.proofs.Common.{◌≡◌, replicate, []}
use Rattle.pm_tree.specs.Tables.{node_lists}
use Rattle.pm_tree.proofs.lists.empty_lists.Given as goal

abbrev pub invariant-loop : goal.invariant-loop
invariant-loop l = node_lists l.lists.items ≡ replicate l.counter []

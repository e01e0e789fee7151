-- Of `parents_of`: what its loop over `at` keeps.
use Rattle.std.proofs.Common.{◌≡◌, take}
use Rattle.pm_tree.specs.Entries.{parents_of}
use Rattle.pm_check.proofs.lists.parents_of.Given as goal

abbrev pub invariant-loop-at : goal.invariant-loop-at
invariant-loop-at l = l.parents.items ≡ take l.at (parents_of l.tree)

-- Of `leaves_of`: what its loop over `at` keeps.
use Rattle.std.proofs.Common.{◌≡◌, take}
use Rattle.pm_tree.specs.Entries.{leaves_of}
use Rattle.pm_check.proofs.lists.leaves_of.Given as goal

abbrev pub invariant-loop-at : goal.invariant-loop-at
invariant-loop-at l = l.leaves.items ≡ take l.at (leaves_of l.tree)

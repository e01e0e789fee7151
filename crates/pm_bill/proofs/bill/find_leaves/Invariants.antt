-- Of `find_leaves`: what its loop over `before` keeps.
use Rattle.std.proofs.Common.{◌≡◌, take}
use Rattle.pm_tree.specs.Entries.{leaves_of}
use Rattle.pm_bill.proofs.bill.find_leaves.Given as goal

abbrev pub invariant-loop-before : goal.invariant-loop-before
invariant-loop-before l = l.leaves.items ≡ take l.before (leaves_of l.tree)

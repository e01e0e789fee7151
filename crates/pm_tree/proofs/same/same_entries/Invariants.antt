-- Of `same_entries`: what its loop over `place` keeps.
use Rattle.std.proofs.Common.{◌≡◌, length, take}
use Rattle.pm_tree.specs.Entries.{entries_of}
use Rattle.pm_tree.proofs.same.same_entries.Given as goal

abbrev pub invariant-loop-place : goal.invariant-loop-place
invariant-loop-place l =
    (length l.entries ≡ length l.others) × (take l.place (entries_of l.entries) ≡ take l.place (entries_of l.others))

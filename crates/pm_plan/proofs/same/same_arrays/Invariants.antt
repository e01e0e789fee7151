-- Of `same_arrays`: what its loop over `place` keeps.
use Rattle.std.proofs.Common.{◌≡◌, length, take}
use Rattle.pm_plan.proofs.same.same_arrays.Given as goal

abbrev pub invariant-loop-place : goal.invariant-loop-place
invariant-loop-place l = (length l.arrays ≡ length l.others) × (take l.place l.arrays ≡ take l.place l.others)

-- Of `same_nodes`: what its loop over `place` keeps.
use Rattle.std.proofs.Common.{◌≡◌, length, take}
use Rattle.pm_plan.proofs.same.same_nodes.Given as goal

abbrev pub invariant-loop-place : goal.invariant-loop-place
invariant-loop-place l = (length l.nodes ≡ length l.others) × (take l.place l.nodes ≡ take l.place l.others)

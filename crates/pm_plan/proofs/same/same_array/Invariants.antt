-- Of `same_array`: what its loop over `step` keeps.
use Rattle.std.proofs.Common.{◌≡◌, length, take}
use Rattle.pm_plan.proofs.same.same_array.Given as goal

abbrev pub invariant-loop-step : goal.invariant-loop-step
invariant-loop-step l = (length l.array ≡ length l.other) × (take l.step l.array ≡ take l.step l.other)

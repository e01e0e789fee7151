-- Of `fill_array`: what its loop over `step` keeps.
use Rattle.std.proofs.Common.{◌≡◌}
use Rattle.pm_points.proofs.Falls.{Filled}
use Rattle.pm_frames.proofs.offer.fill_array.Given as goal

abbrev pub invariant-loop-step : goal.invariant-loop-step
invariant-loop-step l = record { filled : Filled l.bid l.basis l.array l.step; all : l.steps ≡ l.basis.steps }

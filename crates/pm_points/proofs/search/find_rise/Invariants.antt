-- Of `find_rise`: what its loop over `at` keeps.
use Rattle.std.proofs.Common.{◌≡◌, ℕ, ◌+◌, ◌<◌, false}
use Rattle.pm_points.specs.Points.{point_at}
use Rattle.pm_points.specs.Checks.{demand_rises}
use Rattle.pm_points.proofs.search.find_rise.Given as goal

abbrev pub invariant-loop-at : goal.invariant-loop-at
invariant-loop-at l = (k : ℕ) → k + 1 < l.at → demand_rises (point_at l.points k) (point_at l.points (k + 1)) ≡ false

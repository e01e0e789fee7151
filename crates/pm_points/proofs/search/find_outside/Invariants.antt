-- Of `find_outside`: what its loop over `at` keeps.
use Rattle.std.proofs.Common.{◌≡◌, ℕ, ◌<◌, false}
use Rattle.pm_points.specs.Points.{point_at, price_of_point}
use Rattle.pm_points.specs.Checks.{is_outside}
use Rattle.pm_points.proofs.search.find_outside.Given as goal

abbrev pub invariant-loop-at : goal.invariant-loop-at
invariant-loop-at l = (k : ℕ) → k < l.at → is_outside l.basis (price_of_point (point_at l.points k)) ≡ false

-- Of `find_price_fall`: what its loop over `at` keeps.
use Rattle.std.proofs.Common.{◌≡◌, ℕ, ◌+◌, ◌<◌, false}
use Rattle.pm_points.specs.Points.{point_at}
use Rattle.pm_points.specs.Checks.{price_falls}
use Rattle.pm_points.proofs.search.find_price_fall.Given as goal

abbrev pub invariant-loop-at : goal.invariant-loop-at
invariant-loop-at l = (k : ℕ) → k + 1 < l.at → price_falls (point_at l.points k) (point_at l.points (k + 1)) ≡ false

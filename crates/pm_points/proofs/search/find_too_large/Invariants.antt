-- Of `find_too_large`: what its loop over `at` keeps.
use Rattle.std.proofs.Common.{◌≡◌, ℕ, ◌<◌, false}
use Rattle.pm_bid.specs.Checks.{is_too_large}
use Rattle.pm_points.specs.Points.{point_at, demand_of_point}
use Rattle.pm_points.proofs.search.find_too_large.Given as goal

abbrev pub invariant-loop-at : goal.invariant-loop-at
invariant-loop-at l = (k : ℕ) → k < l.at → is_too_large (demand_of_point (point_at l.points k)) ≡ false

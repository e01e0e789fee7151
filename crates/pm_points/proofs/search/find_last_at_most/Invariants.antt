-- Of `find_last_at_most`: what its loop over `at` keeps.
use Rattle.pm_points.proofs.LastPoint.{Above}
use Rattle.pm_points.proofs.search.find_last_at_most.Given as goal

abbrev pub invariant-loop-at : goal.invariant-loop-at
invariant-loop-at l = Above l.points l.fn.price l.at

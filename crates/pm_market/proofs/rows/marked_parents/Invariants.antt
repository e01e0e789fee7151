-- Of `marked_parents`: what its loop over `at` keeps.
use Rattle.std.proofs.Common.{◌≡◌, ◌<◌, ℕ, get_or, true}
use Rattle.pm_market.proofs.rows.marked_parents.Given as goal

abbrev pub invariant-loop-at : goal.invariant-loop-at
invariant-loop-at l = (k : ℕ) → k < l.at → get_or l.marks.items (get_or l.parents k 0) true ≡ true

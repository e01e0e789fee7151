-- Of `is_cut`: what its loop over `number` keeps.
use Rattle.std.proofs.Common.{◌≤◌, ◌<◌, ℕ}
use Rattle.pm_plan.specs.Plans.{change_count}
use Rattle.pm_walk.specs.Cuts.{file_cut}
use Rattle.test_values.proofs.walk.is_cut.Given as goal

abbrev pub invariant-loop-number : goal.invariant-loop-number
invariant-loop-number l = (x : ℕ) → 1 ≤ x → x < l.number → file_cut l.cut x ≤ change_count l.plan x

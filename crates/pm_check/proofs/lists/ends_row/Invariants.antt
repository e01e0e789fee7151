-- Of `ends_row`: what its loop over `at` keeps.
use Rattle.std.proofs.Common.{◌≡◌, map}
use Rattle.std.specs.List.{range_with_len}
use Rattle.pm_plan.specs.Plans.{end_cut}
use Rattle.pm_check.proofs.lists.ends_row.Given as goal

abbrev pub invariant-loop-at : goal.invariant-loop-at
invariant-loop-at l = l.row.items ≡ map (end_cut l.plan l.phase) (range_with_len 1 l.at)

-- Of `members_of`: what its loop over `at` keeps.
use Rattle.std.proofs.Common.{◌≡◌, map}
use Rattle.std.specs.List.{range_with_len}
use Rattle.pm_base.specs.Rows.{rows_of}
use Rattle.pm_plan.specs.Market.{members_of}
use Rattle.pm_check.proofs.lists.members_of.Given as goal

abbrev pub invariant-loop-at : goal.invariant-loop-at
invariant-loop-at l = rows_of l.rows.items ≡ map (members_of l.plan) (range_with_len 1 l.at)

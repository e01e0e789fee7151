-- Of `device_row`: what its loop over `at` keeps.
use Rattle.std.proofs.Common.{◌≡◌, map}
use Rattle.std.specs.List.{range_with_len}
use Rattle.pm_plan.specs.Plans.{is_member}
use Rattle.pm_check.proofs.lists.device_row.Given as goal

abbrev pub invariant-loop-at : goal.invariant-loop-at
invariant-loop-at l = record {
  member : l.member ≡ is_member l.plan l.device.0 l.at;
  row : l.row.items ≡ map (is_member l.plan l.device.0) (range_with_len 1 l.at);
}

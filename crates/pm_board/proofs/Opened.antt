-- An end that was just made has room.
use Rattle.std.proofs.Common.{◌≤◌, length, arith}
use Rattle.pm_tree.proofs.Named.{length-parents_of}
use Rattle.pm_plan.specs.Plans.{PlanData}
use Rattle.pm_plan.specs.Ends.{EndValue}
use Rattle.pm_board.specs.Kept.{HasRoomForAll}

-- an end with room for all entries of a plan
pub vacant_has_room : (plan : PlanData) (e : EndValue) → length plan.entries ≤ e.member_room → length plan.entries ≤ e.limited_room →
    HasRoomForAll plan e
vacant_has_room plan e members limited = record {
  members = omega (arith, members, length-parents_of plan.entries);
  limited = omega (arith, limited, length-parents_of plan.entries);
}

-- What is planned for a device, and when that makes it a member.
use Rattle.std.specs.Prelude.{ℤ, Bool, true, false, List}
use Rattle.std.specs.List.{fold}
use Rattle.pm_device.specs.declared.kind.Kind.{Kind}
use Rattle.pm_plan.specs.declared.planned.Change.{Change}
use Rattle.pm_plan.specs.declared.planned.Planned.{Planned}
use Rattle.pm_plan.specs.declared.planned.Planned.TheVariants.{Join, Leave, Set, Tick}

-- what is planned for a device: its kind, the state that it has before its first change, and its changes in their order
pub record DeviceData : Type 0 where
  pub kind : Kind
  pub start : ℤ
  pub changes : List Change

-- whether a device is a member after a change: a join makes it one, a leave ends it
abbrev pub member_after : Bool → Planned → Bool
member_after member Join = true
member_after member Leave = false
member_after member (Set state) = member
member_after member (Tick minutes) = member

-- whether a device is a member after these changes
abbrev pub is_member_after : List Change → Bool
is_member_after changes = fold (λ member change. member_after member change.what) false changes

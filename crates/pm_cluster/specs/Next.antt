-- The next change of a device.
use Rattle.std.specs.Prelude.{◌≡◌, ℕ, ◌+◌, ◌<◌, ◌≤◌, ◌⊎◌, slice_index_or, Some}
use Rattle.pm_base.specs.Cuts.{Cut}
use Rattle.pm_device.specs.declared.state.Next.{Next}
use Rattle.pm_plan.specs.Plans.{PlanData, phases, end_cut, is_member, planned_change}
use Rattle.pm_plan.specs.declared.planned.Planned.{Planned}
use Rattle.pm_plan.specs.States.{state}
use Rattle.pm_stands.specs.Core.{Core}

-- how many changes a device made
abbrev pub count_of : Core → ℕ → ℕ
count_of c d = slice_index_or c.counts d 0

-- if so many phases are closed and each device made so many changes: no phase is open, or the device made all its changes
-- of the open phase
abbrev pub HasNoNext : PlanData → ℕ → Cut → ℕ → Type 0
HasNoNext plan closed counts d = (phases plan ≤ closed) ⊎ (counts d ≡ end_cut plan (closed + 1) d)

-- the change that a device makes next: a phase is open, the device made fewer changes than it has up to the end of that phase,
-- and the plan's change after those that it made is this one
pub record IsDueChange (plan : PlanData) (closed : ℕ) (counts : Cut) (d : ℕ) (what : Planned) : Type 0 where
  pub open_phase : closed < phases plan
  pub of_phase : counts d < end_cut plan (closed + 1) d
  pub planned : planned_change plan d (counts d + 1) ≡ Some what

-- the next change of a device belongs to the open phase; what it makes of the device is what the plan's changes do
pub record IsNext (plan : PlanData) (closed : ℕ) (counts : Cut) (d : ℕ) (next : Next) : Type 0 where
  pub device : next.device ≡ d
  pub open_phase : closed < phases plan
  pub number : next.number ≡ counts d + 1
  pub of_phase : next.number ≤ end_cut plan (closed + 1) d
  pub member : next.member ≡ is_member plan d next.number
  pub state : next.state.0 ≡ state plan d next.number

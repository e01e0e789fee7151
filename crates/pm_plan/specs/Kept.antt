-- What the type of a plan keeps.
use Rattle.std.specs.Prelude.{◌≡◌, ℕ, ◌<◌, ◌≤◌, ℤ, pos, Bool, true, length, slice_index_or, Some, None, All, IsTrue, Ok}
use Rattle.pm_base.specs.declared.limits.Limits.{Limits}
use Rattle.pm_base.specs.Limits.{most_nodes, AreLimits, demand_limit, most_phases, most_events, most_changes}
use Rattle.pm_basis.specs.Prices.{IsBasis}
use Rattle.pm_bid.specs.Bids.{HaveSteps, AllWithinLimit, NeverRises}
use Rattle.pm_device.specs.Kinds.{is_valid, state_fits, is_between, minutes_limit}
use Rattle.pm_device.specs.declared.kind.Kind.{Kind}
use Rattle.pm_tree.specs.Entries.{checked_tree, parents_of, leaves_of}
use Rattle.pm_tree.specs.Shape.{IsTree}
use Rattle.pm_plan.specs.Devices.{DeviceData}
use Rattle.pm_plan.specs.declared.node.Node.TheVariants.{Limited, Device}
use Rattle.pm_plan.specs.declared.planned.Change.{Change}
use Rattle.pm_plan.specs.declared.planned.Planned.{Planned}
use Rattle.pm_plan.specs.declared.planned.Planned.TheVariants.{Join, Leave, Set, Tick}
use Rattle.pm_plan.specs.Plans.{PlanData, node, is_device, changes_of, phases, minutes_of, is_leaf, is_limited, group, change_count, all_changes, changes_in}

abbrev pub no_change : Change
no_change = record { phase = 0; what = Join }

-- change n of device d, counted from 0
abbrev pub change_at : PlanData → ℕ → ℕ → Change
change_at plan d n = slice_index_or (changes_of (node plan d)) n no_change

-- the minutes of a tick: one minute to one day
abbrev pub are_minutes : ℤ → Bool
are_minutes minutes = is_between (pos 1) (pos minutes_limit) minutes

-- whether a change may be planned for a kind: a state that is set fits it, and a tick has the minutes of one
abbrev pub change_fits : Kind → Planned → Bool
change_fits kind Join = true
change_fits kind Leave = true
change_fits kind (Set value) = state_fits kind value.0
change_fits kind (Tick minutes) = are_minutes minutes

-- what is planned for a device lies within the limits of its kind
pub record DeviceFits (planned : DeviceData) : Type 0 where
  pub kind : IsTrue (is_valid planned.kind)
  pub start : IsTrue (state_fits planned.kind planned.start)
  pub changes : All (λ change. IsTrue (change_fits planned.kind change.what)) planned.changes

-- each change belongs to a phase of the plan, and the phases of a device's changes never fall
pub record InPhases (plan : PlanData) : Type 0 where
  pub first : (d n : ℕ) → n < change_count plan d → 1 ≤ (change_at plan d n).phase
  pub last : (d n : ℕ) → n < change_count plan d → (change_at plan d n).phase ≤ phases plan
  pub rise : (d m n : ℕ) → m ≤ n → n < change_count plan d → (change_at plan d m).phase ≤ (change_at plan d n).phase

-- the nodes are those of the tree, and the devices are its leaves
pub record AreNodes (plan : PlanData) : Type 0 where
  pub one_each : length plan.nodes ≡ length plan.entries
  pub few : length plan.nodes ≤ most_nodes
  pub devices : (x : ℕ) → is_device (node plan x) ≡ is_leaf plan x

-- each array is a bid of one device
pub record AreArrays (plan : PlanData) : Type 0 where
  pub steps : HaveSteps plan.basis.steps plan.arrays
  pub fall : All NeverRises plan.arrays
  pub within : All (AllWithinLimit demand_limit) plan.arrays

-- every number that a plan has lies within the limits of the market
pub record AreWithinLimits (plan : PlanData) : Type 0 where
  pub devices : (d : ℕ) (planned : DeviceData) → node plan d ≡ Device planned → DeviceFits planned
  pub limits : (x : ℕ) (limits : Limits) → node plan x ≡ Limited limits → AreLimits limits
  pub minutes : (p : ℕ) (minutes : ℤ) → minutes_of plan p ≡ Some minutes → IsTrue (are_minutes minutes)
  pub few_phases : phases plan ≤ most_phases
  pub few_events : (p : ℕ) → 1 ≤ p → p ≤ phases plan → minutes_of plan p ≡ None → changes_in plan.nodes p ≤ most_events
  pub few_changes : all_changes plan.nodes ≤ most_changes

pub record IsPlan (plan : PlanData) : Type 0 where
  pub basis : IsBasis plan.basis
  pub accepted : checked_tree plan.entries ≡ Ok plan.entries
  pub tree : IsTree (parents_of plan.entries) (leaves_of plan.entries)
  pub nodes : AreNodes plan
  pub arrays : AreArrays plan
  pub in_phases : InPhases plan
  pub within : AreWithinLimits plan
  -- no limited concentrator stands above a limited one
  pub one_limit : (x : ℕ) → is_limited plan x ≡ true → group plan x ≡ 0

-- The states of the devices after their changes: first what they are, then how they are found.
use Rattle.std.specs.Prelude.{◌≡◌, ℕ, zero, suc, ◌+◌, ◌-◌, ◌<◌, ℤ, pos, List, [], ◌∷◌, ◌++◌, length, map, take, slice_index_or}
use Rattle.std.specs.List.{fold, range_with_len}
use Rattle.pm_device.specs.declared.kind.Kind.{Kind}
use Rattle.pm_device.specs.Ticks.{tick}
use Rattle.pm_plan.specs.Devices.{DeviceData}
use Rattle.pm_plan.specs.declared.node.Node.TheVariants.{Device}
use Rattle.pm_plan.specs.declared.planned.Change.{Change}
use Rattle.pm_plan.specs.declared.planned.Planned.{Planned}
use Rattle.pm_plan.specs.declared.planned.Planned.TheVariants.{Join, Leave, Set, Tick}
use Rattle.pm_plan.specs.Plans.{PlanData, NodeData, node, phases, change_count, end_cut, node_numbers}
use Rattle.pm_plan.specs.Kept.{change_at}
use Rattle.pm_plan.specs.Auction.{States, power, end_in, EndData}
use Rattle.pm_base.specs.Cuts.{Cut}

-- ---- what they are

-- the state after one change, if the device had this power before: a join and a leave keep it, a tick moves it
abbrev pub changed_state : Kind → ℤ → ℤ → Planned → ℤ
changed_state kind state power Join = state
changed_state kind state power Leave = state
changed_state kind state power (Set value) = value.0
changed_state kind state power (Tick minutes) = tick kind state power minutes

-- the power of a device before the changes of phase p, if the devices have these states: that of the plain auction
-- at the end of the phase before
abbrev pub power_before : PlanData → States → ℕ → ℕ → ℤ
power_before plan states p d = power plan states (end_cut plan (p - 1)) d

-- these states follow the changes of a plan: a device begins in its start, and each of its changes makes the next
-- state from the one before and from the power that the device had before the phase of the change
pub record FollowChanges (plan : PlanData) (states : States) : Type 0 where
  pub start : (d : ℕ) (planned : DeviceData) → node plan d ≡ Device planned → states d 0 ≡ planned.start
  pub next : (d n : ℕ) (planned : DeviceData) → node plan d ≡ Device planned → n < change_count plan d →
      states d (n + 1) ≡ changed_state planned.kind (states d n) (power_before plan states (change_at plan d n).phase d) (change_at plan d n).what

-- ---- how they are found

-- Only one choice of states follows the changes of a plan, `state` below (law `states_follow_the_changes`). A change of
-- phase p needs the powers at the end of phase p - 1, and these need the states up to there; so the powers at the ends
-- of the phases are found one after another, each phase's as a row of the powers of all nodes, the auctioneer's first.

-- the power of node d at the end of phase p by these rows, the first of which is of phase 0; 0 if there is none
abbrev pub power_in_rows : List (List ℤ) → ℕ → ℕ → ℤ
power_in_rows rows p d = slice_index_or (slice_index_or rows p []) d (pos 0)

-- the state of a device after these changes, if its power at the end of each phase is known
abbrev pub state_after : DeviceData → (ℕ → ℤ) → List Change → ℤ
state_after planned powers changes =
    fold (λ state change. changed_state planned.kind state (powers (change.phase - 1)) change.what) planned.start changes

-- the state of a node after its first n changes: of a device as above, and 0 for any other node
abbrev pub node_state : NodeData → (ℕ → ℤ) → ℕ → ℤ
node_state (Device planned) powers n = state_after planned powers (take n planned.changes)
node_state _ powers n = pos 0

-- the state of node d after its first n changes, by the powers of these rows
unfoldable pub state_by_rows : PlanData → List (List ℤ) → ℕ → ℕ → ℤ
state_by_rows plan rows d n = node_state (node plan d) (λ p. power_in_rows rows p d) n

-- the row of phase p: the power of each node at its end, by the states that the rows before it give
unfoldable pub power_row : PlanData → List (List ℤ) → ℕ → List ℤ
power_row plan rows p = pos 0 ∷ map (power plan (state_by_rows plan rows) (end_cut plan p)) (node_numbers plan)

unfoldable pub with_next_row : PlanData → List (List ℤ) → List (List ℤ)
with_next_row plan rows = rows ++ power_row plan rows (length rows) ∷ []

-- the first p rows, those of the phases 0 to p - 1
unfoldable pub power_rows : PlanData → ℕ → List (List ℤ)
power_rows plan zero = []
power_rows plan (suc p) = with_next_row plan (power_rows plan p)

-- the state of device d after its first n changes: no tick needs the powers at the end of the last phase
unfoldable pub state : PlanData → ℕ → ℕ → ℤ
state plan d n = state_by_rows plan (power_rows plan (phases plan)) d n

-- ---- what holds over a cut

abbrev pub end_of : PlanData → Cut → EndData
end_of plan cut = end_in plan (state plan) cut

-- the ends of all phases, each over the changes of the phases up to it
abbrev pub all_ends : PlanData → List EndData
all_ends plan = map (λ p. end_of plan (end_cut plan p)) (range_with_len 1 (phases plan))

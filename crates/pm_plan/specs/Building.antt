-- The plan that the parts of a cluster file give, or the first refusal: first the nodes in order, then the phases in
-- order, each by the plan as far as it goes before.
use Rattle.std.specs.Prelude.{ℕ, ◌-◌, ◌==◌, ℤ, pos, neg_ℤ, Bool, true, false, not, ◌&&◌, nat_le, if◌then◌else◌, List, [], ◌∷◌}
use Rattle.std.specs.Prelude.{◌++◌, length, map, slice_set, Option, Some, None, option_and_then, Result, Ok, Err}
use Rattle.pm_base.specs.declared.limits.Limits.{Limits}
use Rattle.pm_basis.specs.Prices.{BasisValue}
use Rattle.pm_base.specs.Limits.{sum_limit, most_phases, most_events, most_changes}
use Rattle.pm_bid.specs.Checks.{checked_bid}
use Rattle.pm_bid.specs.declared.fault.BidFault.{BidFault}
use Rattle.pm_bid.specs.declared.fault.BidFault.TheVariants as bid_faults
use Rattle.pm_points.specs.Points.{Point, array_of_points}
use Rattle.pm_points.specs.Checks.{checked_points}
use Rattle.pm_points.specs.declared.fault.PointFault.{PointFault}
use Rattle.pm_points.specs.declared.fault.PointFault.TheVariants as point_faults
use Rattle.pm_device.specs.Kinds.{is_valid, state_fits, has_ticks, is_between}
use Rattle.pm_device.specs.declared.kind.Kind.{Kind}
use Rattle.pm_device.specs.declared.kind.Kind.TheVariants as kinds
use Rattle.pm_tree.specs.Entries.{Entry, node_named, is_leaf_at}
use Rattle.pm_plan.specs.declared.refusal.Cause.TheVariants as cause
use Rattle.pm_plan.specs.declared.node.Node.TheVariants.{Concentrator, Limited, Device}
use Rattle.pm_plan.specs.declared.planned.Planned.{Planned}
use Rattle.pm_plan.specs.declared.planned.Planned.TheVariants.{Join, Leave, Set, Tick}
use Rattle.pm_plan.specs.declared.refusal.Place.{Place}
use Rattle.pm_plan.specs.declared.refusal.Place.TheVariants.{Document, Node, Phase, Event}
use Rattle.pm_plan.specs.declared.refusal.Refusal.{Refusal}
use Rattle.pm_plan.specs.Parts.{StatePart, number, array, points, NodePart, concentrator, limited, device, EventPart, join, state, leave, PhasePart, events}
use Rattle.pm_plan.specs.Parts.{tick}
use Rattle.pm_plan.specs.Devices.{DeviceData, is_member_after}
use Rattle.pm_plan.specs.Plans.{PlanData, NodeData, node, kind_of, changes_of, group, all_changes}
use Rattle.pm_plan.specs.Kept.{are_minutes}
use Rattle.pm_plan.specs.Refusals.{refuse, refuse_item, need, check}
use Rattle.pm_base.specs.Outcomes.{◌>>=◌, ◌>>◌, fold_from}

-- ---- states

-- the item of a refusal: the length that was wrong, else the first step at fault
abbrev pub item_of_bid : BidFault → ℕ
item_of_bid (bid_faults.WrongLength have) = have
item_of_bid (bid_faults.Rising at) = at
item_of_bid (bid_faults.TooLarge at) = at

-- the item of a refusal: 0 if there are no points, their number if there are too many, else the first at fault
abbrev pub item_of_points : PointFault → ℕ
item_of_points point_faults.NoPoints = 0
item_of_points (point_faults.TooMany have) = have
item_of_points (point_faults.PriceFalls at) = at
item_of_points (point_faults.Rising at) = at
item_of_points (point_faults.TooLarge at) = at
item_of_points (point_faults.PriceOutside at) = at

-- the bid of these demands, and of these points
abbrev pub array_or_refuse : Place → Result (List ℤ) BidFault → Result (List ℤ) Refusal
array_or_refuse place (Ok bid) = Ok bid
array_or_refuse place (Err fault) = refuse_item cause.BadArray place (item_of_bid fault)

abbrev pub points_or_refuse : BasisValue → Place → Result (List Point) PointFault → Result (List ℤ) Refusal
points_or_refuse basis place (Ok bid) = Ok (array_of_points bid basis)
points_or_refuse basis place (Err fault) = refuse_item cause.BadPoints place (item_of_points fault)

-- a state and the plan with it: a manual device's bid joins the arrays, and its state is the number of that array
abbrev pub with_array : PlanData → List ℤ → ℤ × PlanData
with_array plan bid = (pos (length plan.arrays), record plan { arrays = plan.arrays ++ bid ∷ [] })

-- the bid that is written for a manual device
abbrev pub manual_bid : Place → BasisValue → StatePart → Result (List ℤ) Refusal
manual_bid place basis (number z) = refuse cause.UnfitState place
manual_bid place basis (array demands) = array_or_refuse place (checked_bid basis.steps demands)
manual_bid place basis (points pairs) = points_or_refuse basis place (checked_points basis pairs)

unfoldable pub manual_state : Place → PlanData → StatePart → Result (ℤ × PlanData) Refusal
manual_state place plan part = do
  bid ← manual_bid place plan.basis part
  Ok (with_array plan bid)

-- every other kind has a number that fits it
abbrev pub number_state : Place → Kind → PlanData → StatePart → Result (ℤ × PlanData) Refusal
number_state place kind plan (number z) = if state_fits kind z then Ok (z, plan) else refuse cause.UnfitState place
number_state place kind plan (array demands) = refuse cause.UnfitState place
number_state place kind plan (points pairs) = refuse cause.UnfitState place

abbrev pub is_manual : Kind → Bool
is_manual kinds.Manual = true
is_manual _ = false

unfoldable pub state_of : Place → Kind → PlanData → StatePart → Result (ℤ × PlanData) Refusal
state_of place kind plan part = if is_manual kind then manual_state place plan part else number_state place kind plan part

-- ---- nodes

-- whether these are a floor and a ceiling
abbrev pub are_limits : Limits → Bool
are_limits limits = is_between (neg_ℤ (pos sum_limit)) (pos 0) limits.floor && is_between (pos 0) (pos sum_limit) limits.ceiling

abbrev pub with_node : PlanData → NodeData → PlanData
with_node plan new = record plan { nodes = plan.nodes ++ new ∷ [] }

-- the plan with one more node, whose number is n
unfoldable pub add_node : ℕ → PlanData → NodePart → Result PlanData Refusal
add_node n plan concentrator = Ok (with_node plan Concentrator)
add_node n plan (limited floor ceiling) = do
  check cause.OutsideLimits (Node n) (are_limits (record { floor = floor; ceiling = ceiling }))
  check cause.LimitedTwice (Node n) (group plan n == 0)
  Ok (with_node plan (Limited (record { floor = floor; ceiling = ceiling })))
add_node n plan (device kind start) = do
  check cause.OutsideLimits (Node n) (is_valid kind)
  made ← state_of (Node n) kind plan start
  Ok (with_node made.1 (Device (record { kind = kind; start = made.0; changes = [] })))

-- ---- events

-- the device of a name
abbrev pub leaf_or_none : List Entry → ℕ → Option ℕ
leaf_or_none entries x = if is_leaf_at entries x then Some x else None

abbrev pub device_named : List Entry → List ℕ → Option ℕ
device_named entries name = option_and_then (leaf_or_none entries) (node_named entries name)

-- what is planned for a device, with one more change
abbrev pub with_change : ℕ → Planned → DeviceData → DeviceData
with_change p what old = record old { changes = old.changes ++ (record { phase = p; what = what }) ∷ [] }

-- a device after f, and any other node as it is
abbrev pub map_device : (DeviceData → DeviceData) → NodeData → NodeData
map_device f (Device planned) = Device (f planned)
map_device f node = node

-- the plan with one more change of a device
unfoldable pub with_change_of : PlanData → ℕ → ℕ → Planned → PlanData
with_change_of plan d p what = record plan { nodes = slice_set plan.nodes (d - 1) (map_device (with_change p what) (node plan d)) }

-- whether a device is a member after all events before
abbrev pub is_member_now : PlanData → ℕ → Bool
is_member_now plan d = is_member_after (changes_of (node plan d))

-- the device of a name, which has to be a member, or has to be none
unfoldable pub member_named : Place → PlanData → List ℕ → Result ℕ Refusal
member_named place plan name = do
  d ← need cause.UnknownDevice place (device_named plan.entries name)
  check cause.NotJoined place (is_member_now plan d)
  Ok d

unfoldable pub stranger_named : Place → PlanData → List ℕ → Result ℕ Refusal
stranger_named place plan name = do
  d ← need cause.UnknownDevice place (device_named plan.entries name)
  check cause.JoinedAlready place (not (is_member_now plan d))
  Ok d

-- the plan with one more event of phase p; a state is read by the kind of its device
unfoldable pub event_of : Place → ℕ → PlanData → EventPart → Result PlanData Refusal
event_of place p plan (join name) = do
  d ← stranger_named place plan name
  Ok (with_change_of plan d p Join)
event_of place p plan (leave name) = do
  d ← member_named place plan name
  Ok (with_change_of plan d p Leave)
event_of place p plan (state name value) = do
  d ← member_named place plan name
  kind ← need cause.UnknownDevice place (kind_of (node plan d))
  made ← state_of place kind plan value
  Ok (with_change_of made.1 d p (Set (record { 0 = made.0 })))

-- event n of phase p
abbrev pub add_event : ℕ → ℕ → PlanData → EventPart → Result PlanData Refusal
add_event p n plan part = event_of (Event p n) p plan part

-- ---- phases

-- a tick is a change of each member whose state changes by itself
abbrev pub ticks_now : DeviceData → Bool
ticks_now planned = has_ticks planned.kind && is_member_after planned.changes

abbrev pub device_after_tick : ℕ → ℤ → DeviceData → DeviceData
device_after_tick p minutes old = if ticks_now old then with_change p (Tick minutes) old else old

abbrev pub with_phase : PlanData → Option ℤ → PlanData
with_phase plan minutes = record plan { minutes = plan.minutes ++ minutes ∷ [] }

abbrev pub with_tick : ℕ → ℤ → PlanData → PlanData
with_tick p minutes plan = record plan { nodes = map (map_device (device_after_tick p minutes)) plan.nodes; minutes = plan.minutes ++ Some minutes ∷ [] }

unfoldable pub phase_of : ℕ → PlanData → PhasePart → Result PlanData Refusal
phase_of p plan (tick minutes) = do
  check cause.OutsideLimits (Phase p) (are_minutes minutes)
  Ok (with_tick p minutes plan)
phase_of p plan (events list) = do
  check cause.RunTooLarge (Phase p) (nat_le (length list) most_events)
  after ← fold_from 1 (add_event p) plan list
  Ok (with_phase after None)

-- the plan with one more phase, whose number is p
unfoldable pub add_phase : ℕ → PlanData → PhasePart → Result PlanData Refusal
add_phase p plan part = do
  after ← phase_of p plan part
  check cause.RunTooLarge (Phase p) (nat_le (all_changes after.nodes) most_changes)
  Ok after

-- ---- the whole

abbrev pub empty_plan : BasisValue → List Entry → PlanData
empty_plan basis entries = record { basis = basis; entries = entries; nodes = []; arrays = []; minutes = [] }

-- a plan with these nodes and then these phases, or the first refusal
abbrev pub nodes_and_phases : PlanData → List NodePart → List PhasePart → Result PlanData Refusal
nodes_and_phases plan nodes phases = fold_from 1 add_node plan nodes >>= λ made. fold_from 1 add_phase made phases

-- the plan of a basis, a tree, its nodes and the phases, or the first refusal
unfoldable pub checked_plan : BasisValue → List Entry → List NodePart → List PhasePart → Result PlanData Refusal
checked_plan basis entries nodes phases = do
  check cause.RunTooLarge Document (nat_le (length phases) most_phases)
  plan ← fold_from 1 add_node (empty_plan basis entries) nodes
  fold_from 1 add_phase plan phases

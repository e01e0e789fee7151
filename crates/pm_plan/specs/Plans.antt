-- A plan: the basis, the tree, what is planned for each node, the arrays, and the minutes of the phases.
use Rattle.std.specs.Prelude.{ℕ, zero, suc, ◌-◌, ◌==◌, nat_le, ℤ, Bool, true}
use Rattle.std.specs.Prelude.{false, if◌then◌else◌, List, [], ◌∷◌, length, take, Option, Some, None}
use Rattle.std.specs.Prelude.{is_some, option_map, slice_get, slice_index_or}
use Rattle.std.specs.List.{sum_by, count_by, prefix_len, range_with_len}
use Rattle.pm_base.specs.Limits.{move_bound}
use Rattle.pm_base.specs.declared.limits.Limits.{Limits}
use Rattle.pm_basis.specs.Prices.{BasisValue}
use Rattle.pm_tree.specs.Entries.{Entry, parent_of, is_leaf_at}
use Rattle.pm_device.specs.declared.kind.Kind.{Kind}
use Rattle.pm_plan.specs.Devices.{is_member_after}
use Rattle.pm_plan.specs.declared.node.Node.{Node}
use Rattle.pm_plan.specs.declared.node.Node.TheVariants.{Concentrator, Limited, Device}
use Rattle.pm_plan.specs.declared.planned.Change.{Change}
use Rattle.pm_plan.specs.declared.planned.Planned.{Planned}

-- what is planned for a node: nothing for a concentrator, the limits of a limited one, and for a device its kind, its
-- start and its changes
abbrev pub NodeData : Type 0
NodeData = Node

-- whether a node is a device
abbrev pub is_device : NodeData → Bool
is_device (Device planned_change) = true
is_device _ = false

-- the limits of a limited concentrator, none for any other node
abbrev pub limits_of : NodeData → Option Limits
limits_of (Limited limits) = Some limits
limits_of _ = None

-- the kind of a device, none for any other node
abbrev pub kind_of : NodeData → Option Kind
kind_of (Device planned_change) = Some planned_change.kind
kind_of _ = None

-- the state of a device before its first change, none for any other node
abbrev pub start_of : NodeData → Option ℤ
start_of (Device planned_change) = Some planned_change.start
start_of _ = None

-- the changes of a device; no other node has any
abbrev pub changes_of : NodeData → List Change
changes_of (Device planned_change) = planned_change.changes
changes_of _ = []

-- the nodes stand in the order of the tree's entries, so they are 1, 2, ..; the arrays are the bids of the manual
-- devices, each by its number from 0; a phase has minutes if it is a tick, and none if it has events
pub record PlanData : Type 0 where
  pub basis : BasisValue
  pub entries : List Entry
  pub nodes : List NodeData
  pub arrays : List (List ℤ)
  pub minutes : List (Option ℤ)

-- what is planned for a node; node 0 is the auctioneer, for which as little is planned as for a concentrator
abbrev pub node_at : List NodeData → ℕ → NodeData
node_at nodes x = slice_index_or (Concentrator ∷ nodes) x Concentrator

abbrev pub node : PlanData → ℕ → NodeData
node plan x = node_at plan.nodes x

-- the numbers of all nodes of the file
abbrev pub node_numbers : PlanData → List ℕ
node_numbers plan = range_with_len 1 (length plan.nodes)

abbrev pub parent : PlanData → ℕ → ℕ
parent plan x = parent_of plan.entries x

-- whether a node is a leaf of the tree
abbrev pub is_leaf : PlanData → ℕ → Bool
is_leaf plan x = is_leaf_at plan.entries x

-- whether a node is a limited concentrator
abbrev pub is_limited : PlanData → ℕ → Bool
is_limited plan x = is_some (limits_of (node plan x))

-- the limited concentrator above a node, at most so many levels up; 0 if there is none
unfoldable pub group_in : PlanData → ℕ → ℕ → ℕ
group_in plan zero x = 0
group_in plan (suc levels) x =
    if is_limited plan (parent plan x) then parent plan x
    else group_in plan levels (parent plan x)

-- the limited concentrator above a node, 0 if there is none: the group that a device belongs to. Parents have
-- smaller numbers, so a node has no more nodes above it than its number
unfoldable pub group : PlanData → ℕ → ℕ
group plan x = group_in plan x x

-- a node that is not the auctioneer
abbrev pub unless_zero : ℕ → Option ℕ
unless_zero zero = None
unless_zero (suc x) = Some (suc x)

-- the same, none if there is none
abbrev pub group_above : PlanData → ℕ → Option ℕ
group_above plan x = unless_zero (group plan x)

abbrev pub phases : PlanData → ℕ
phases plan = length plan.minutes

-- the minutes of a phase, counted from 1; none if it has events
abbrev pub minutes_of : PlanData → ℕ → Option ℤ
minutes_of plan p = slice_index_or plan.minutes (p - 1) None

-- whether a change belongs to one of the phases up to p
abbrev pub is_up_to : ℕ → Change → Bool
is_up_to p change = nat_le change.phase p

-- how many changes of a device belong to the phases 1 to p
unfoldable pub end_cut : PlanData → ℕ → ℕ → ℕ
end_cut plan p d = prefix_len (is_up_to p) (changes_of (node plan d))

-- how many changes of a device belong to phase p
abbrev pub phase_changes : PlanData → ℕ → ℕ → ℕ
phase_changes plan p d = end_cut plan p d - end_cut plan (p - 1) d

-- how many changes a device makes
abbrev pub change_count : PlanData → ℕ → ℕ
change_count plan d = length (changes_of (node plan d))

-- how many changes all devices make
abbrev pub all_changes : List NodeData → ℕ
all_changes nodes = sum_by (λ node. length (changes_of node)) nodes

-- how many changes belong to phase p
abbrev pub changes_in : List NodeData → ℕ → ℕ
changes_in nodes p = sum_by (λ node. count_by (λ change. change.phase == p) (changes_of node)) nodes

-- how many moves a run of the plan has at most
abbrev pub plan_bound : PlanData → ℕ
plan_bound plan = move_bound (all_changes plan.nodes) (length plan.nodes) (phases plan)

-- whether a device is a member after its first n changes
unfoldable pub is_member : PlanData → ℕ → ℕ → Bool
is_member plan d n = is_member_after (take n (changes_of (node plan d)))

-- the change at a place of a list, counted from 0
abbrev pub planned_change_at : List Change → ℕ → Option Planned
planned_change_at changes place = option_map (λ change. change.what) (slice_get changes place)

-- change number n of a device, counted from 1; none if the number is 0 or above the device's changes
abbrev pub planned_change : PlanData → ℕ → ℕ → Option Planned
planned_change plan d zero = None
planned_change plan d (suc place) = planned_change_at (changes_of (node plan d)) place

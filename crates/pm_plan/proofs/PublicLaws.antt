-- The laws in the order of their clauses.
use Rattle.std.proofs.Common.{◌≡◌, ℕ, ◌≤◌, length, IsTrue, List, Ok}
use Rattle.pm_basis.specs.Prices.{BasisValue, IsBasis}
use Rattle.pm_tree.specs.Entries.{Entry, checked_tree, parents_of, leaves_of}
use Rattle.pm_tree.specs.Shape.{IsTree}
use Rattle.pm_plan.specs.Parts.{NodePart, PhasePart, AreNodesOf}
use Rattle.pm_plan.specs.Building.{checked_plan}
use Rattle.pm_plan.proofs.Sound.{checked_plan-keeps}
use Rattle.pm_bid.specs.Bids.{AllWithinLimit, NeverRises}
use Rattle.pm_base.specs.Limits.{demand_limit, IsWithin}
use Rattle.pm_device.specs.Kinds.{state_fits}
use Rattle.pm_strategy.specs.Strategies.{bid_of}
use Rattle.pm_market.specs.Lists.{Lawful}
use Rattle.pm_market.specs.Lists as market
use Rattle.pm_market.specs.Bound as market_bound
use Rattle.pm_plan.specs.Devices.{DeviceData}
use Rattle.pm_plan.specs.declared.node.Node.TheVariants.{Device}
use Rattle.pm_plan.specs.Plans.{PlanData, node, parent, is_leaf, is_member, change_count, phases, end_cut, plan_bound}
use Rattle.pm_plan.specs.Auction.{States, power}
use Rattle.pm_base.specs.Cuts.{Cut}
use Rattle.pm_plan.specs.States.{FollowChanges, state}
use Rattle.pm_plan.specs.Kept.{IsPlan, InPhases}
use Rattle.pm_plan.specs.Market.{plan_lists}
use Rattle.pm_plan.proofs.StateLaws.{state-follows, state-only}
use Rattle.pm_plan.proofs.Fits.{state-fits, bid-steps, bid-within, bid-falls, power-within}
use Rattle.pm_plan.proofs.MarketLists.{lawful, parent-is, is_leaf-is, changes-is, is_member-is, phases-is, end-is, bound-is}

-- the states of a plan follow its changes, where these lie in the plan's phases
pub follows : (plan : PlanData) → InPhases plan → FollowChanges plan (state plan)
follows plan fits = state-follows plan fits

-- states that follow the changes of a plan are those of the plan, after each number of a device's changes
pub only : (plan : PlanData) (states : States) (d n : ℕ) (planned : DeviceData) → InPhases plan → FollowChanges plan states →
    node plan d ≡ Device planned → n ≤ change_count plan d → states d n ≡ state plan d n
only plan states d n planned fits follow is within = state-only plan states d n planned fits follow is within

-- the state of a device after its first n changes fits the device's kind
pub fits : (plan : PlanData) (d n : ℕ) (planned : DeviceData) → IsPlan plan → node plan d ≡ Device planned → n ≤ change_count plan d →
    IsTrue (state_fits planned.kind (state plan d n))
fits plan d n planned is here inside = state-fits plan d n planned is here inside

-- the bid of a device in the state after its first n changes has as many steps as the plan's basis
pub steps : (plan : PlanData) (d n : ℕ) (planned : DeviceData) → IsPlan plan → node plan d ≡ Device planned →
    length (bid_of planned.kind (state plan d n) plan.arrays plan.basis.steps) ≡ plan.basis.steps
steps plan d n planned is here = bid-steps plan (Device planned) (state plan d n) is

-- the bid of a device after its first n changes lies within the limit of a demand at each step
pub within : (plan : PlanData) (d n : ℕ) (planned : DeviceData) → IsPlan plan → node plan d ≡ Device planned → n ≤ change_count plan d →
    AllWithinLimit demand_limit (bid_of planned.kind (state plan d n) plan.arrays plan.basis.steps)
within plan d n planned is here inside = bid-within plan d n planned is here inside

-- the bid of a device in the state after its first n changes never rises from step to step
pub falls : (plan : PlanData) (d n : ℕ) (planned : DeviceData) → IsPlan plan → node plan d ≡ Device planned →
    NeverRises (bid_of planned.kind (state plan d n) plan.arrays plan.basis.steps)
falls plan d n planned is here = bid-falls plan d n planned is here

-- a node's power in a cut, of no more than its changes, lies within the limit of a demand
pub powers : (plan : PlanData) (cut : Cut) (d : ℕ) → IsPlan plan → cut d ≤ change_count plan d → IsWithin demand_limit (power plan (state plan) cut d)
powers plan cut d is inside = power-within plan cut d is inside

-- the market's lists of a plan are lawful
pub lawful_lists : (plan : PlanData) → IsPlan plan → Lawful (plan_lists plan)
lawful_lists plan is = lawful plan is

-- in the market's lists of a plan a node has the same parent as in the plan
pub parents : (plan : PlanData) (x : ℕ) → market.parent (plan_lists plan) x ≡ parent plan x
parents plan x = parent-is plan x

-- in the market's lists of a plan a node is a leaf exactly where it is one in the plan
pub leaves : (plan : PlanData) (x : ℕ) → market.is_leaf (plan_lists plan) x ≡ is_leaf plan x
leaves plan x = is_leaf-is plan x

-- in the market's lists a planned node is a member after n of its changes exactly where it is in the plan
pub members : (plan : PlanData) (d n : ℕ) → 1 ≤ d → d ≤ length plan.nodes → n ≤ change_count plan d →
    market.is_member (plan_lists plan) d n ≡ is_member plan d n
members plan d n low high inside = is_member-is plan d n low high inside

-- in the market's lists of a plan a planned node has as many changes as in the plan
pub changes : (plan : PlanData) (d : ℕ) → 1 ≤ d → d ≤ length plan.nodes → market.changes (plan_lists plan) d ≡ change_count plan d
changes plan d low high = changes-is plan d low high

-- the market's lists of a plan have as many phases as the plan
pub phase_count : (plan : PlanData) → market.phases (plan_lists plan) ≡ phases plan
phase_count plan = phases-is plan

-- in the market's lists a planned node has as many changes at a phase's end as in the plan
pub ends : (plan : PlanData) (p d : ℕ) → IsPlan plan → 1 ≤ d → d ≤ length plan.nodes → p ≤ phases plan →
    market.end_count (plan_lists plan) p d ≡ end_cut plan p d
ends plan p d is low high inside = end-is plan p d low high inside is.in_phases

-- the bound on the moves of a run is the same by the market's lists as by the plan
pub bounds : (plan : PlanData) → IsPlan plan → market_bound.bound (plan_lists plan) ≡ plan_bound plan
bounds plan is = bound-is plan is

-- what a market basis, an accepted tree and its nodes and phases give, where not refused, is a plan
pub plans : (basis : BasisValue) (entries : List Entry) (nodes : List NodePart) (phases : List PhasePart) (plan : PlanData) →
    IsBasis basis → checked_tree entries ≡ Ok entries → IsTree (parents_of entries) (leaves_of entries) → AreNodesOf entries nodes →
    checked_plan basis entries nodes phases ≡ Ok plan → IsPlan plan
plans basis entries nodes phases plan sound accepted tree fit h = checked_plan-keeps basis entries nodes phases plan sound accepted tree fit h

-- what the lists of a plan are
pub ruleset list_laws = (lawful_lists, parents, leaves, members, changes, phase_count, ends, bounds)

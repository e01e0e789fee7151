-- The state of each device fits its kind, and so its bid lies within the limits.
use Rattle.std.proofs.Common.{◌≡◌, ◌∙◌, sym, ap, ℕ, zero, suc, ◌-◌, ◌<◌, ◌≤◌, ℤ, pos}
use Rattle.std.proofs.Common.{List, length, get_or, refl, arith, subst, add-one, IsTrue, Some, inl, inr}
use Rattle.std.proofs.Math.ListN.{get_or-eq_default}
use Rattle.std.proofs.lemmas.Bool.{cases_lt}
use Rattle.pm_base.proofs.Bools.{chosen}
use Rattle.pm_base.proofs.Ints.{none-within}
use Rattle.pm_bid.proofs.Sums.{length-zeros, zeros-within}
use Rattle.pm_bid.specs.Bids.{AllWithinLimit, NeverRises, demand_at}
use Rattle.pm_base.specs.Limits.{demand_limit, IsWithin}
use Rattle.pm_device.specs.Kinds.{is_valid, state_fits}
use Rattle.pm_device.specs.declared.kind.Kind.{Kind}
use Rattle.pm_device.proofs.TicksFit.{tick-fits}
use Rattle.pm_strategy.specs.Strategies.{bid_of}
use Rattle.pm_strategy.proofs.BidLaws.{length-bid_of, bid_of-within, bid_of-falls}
use Rattle.pm_plan.specs.declared.planned.Planned.{Planned}
use Rattle.pm_plan.specs.declared.planned.Planned.TheVariants.{Join, Leave, Set, Tick}
use Rattle.pm_plan.specs.Devices.{DeviceData}
use Rattle.pm_plan.specs.declared.node.Node.TheVariants.{Concentrator, Limited, Device}
use Rattle.pm_plan.specs.Plans.{PlanData, NodeData, node, kind_of, changes_of, change_count, is_member, end_cut}
use Rattle.pm_plan.specs.Auction.{node_bid, local_step_in, power, demand_in_cut}
use Rattle.pm_base.specs.Cuts.{Cut}
use Rattle.pm_plan.specs.States.{changed_state, state}
use Rattle.pm_plan.specs.Kept.{IsPlan, no_change, change_fits, change_at}
use Rattle.pm_plan.proofs.DeviceNodes.{kind_of-tells}
use Rattle.pm_plan.proofs.StateLaws.{state-start, state-next}

changed-fits : (kind : Kind) (state power : ℤ) (what : Planned) → IsTrue (is_valid kind) → IsTrue (state_fits kind state) →
    IsTrue (change_fits kind what) → IsTrue (state_fits kind (changed_state kind state power what))
changed-fits kind state power Join valid fits change = fits
changed-fits kind state power Leave valid fits change = fits
changed-fits kind state power (Set value) valid fits change = change
changed-fits kind state power (Tick minutes) valid fits change = tick-fits kind state power minutes valid fits

-- the parameters of a planned device's kind lie within their limits
pub kind_valid : (plan : PlanData) → IsPlan plan → (d : ℕ) (kind : Kind) → kind_of (node plan d) ≡ Some kind → IsTrue (is_valid kind)
kind_valid plan is_plan d kind kind_is =
    let has = kind_of-tells (node plan d) kind kind_is in
    subst (λ (k : Kind). IsTrue (is_valid k)) has.kind_is (is_plan.within.devices d has.planned has.is).kind

-- each change of a device fits its kind
pub change-fits : (plan : PlanData) (d n : ℕ) (planned : DeviceData) → IsPlan plan → node plan d ≡ Device planned → n < change_count plan d →
    IsTrue (change_fits planned.kind (change_at plan d n).what)
change-fits plan d n planned is here inside =
    let P : NodeData → Type 0 = λ (m : NodeData). n < length (changes_of m) → IsTrue (change_fits planned.kind (get_or (changes_of m) n no_change).what) in
    subst P (sym here) ((is.within.devices d planned here).changes n no_change) inside

-- the state of a device after its first n changes fits the device's kind
pub state-fits : (plan : PlanData) (d n : ℕ) (planned : DeviceData) → IsPlan plan → node plan d ≡ Device planned → n ≤ change_count plan d →
    IsTrue (state_fits planned.kind (state plan d n))
state-fits plan d zero planned is here within = subst (λ z. IsTrue (state_fits planned.kind z)) (sym (state-start plan d planned here))
    (is.within.devices d planned here).start
state-fits plan d (suc n) planned is here within =
    let P = λ (z : ℤ). IsTrue (state_fits planned.kind z) in
    let what = (change_at plan d n).what in
    let used = power plan (state plan) (end_cut plan ((change_at plan d n).phase - 1)) d in
    let before = state-fits plan d n planned is here (omega arith) in
    let next = ap (state plan d) (sym (add-one n)) ∙ state-next plan d n planned is.in_phases here (omega arith) in
    let valid = (is.within.devices d planned here).kind in
    subst P (sym next) (changed-fits planned.kind (state plan d n) used what valid before (change-fits plan d n planned is here (omega arith)))

-- the bid of a node in any state has as many steps as the plan's basis
pub bid-steps : (plan : PlanData) (n : NodeData) (z : ℤ) → IsPlan plan → length (node_bid plan n z) ≡ plan.basis.steps
bid-steps plan Concentrator z is = length-zeros plan.basis.steps
bid-steps plan (Limited limits) z is = length-zeros plan.basis.steps
bid-steps plan (Device planned) z is = length-bid_of planned.kind z plan.arrays plan.basis.steps is.arrays.steps

-- the bid of a device after its first n changes lies within the limit of a demand at each step
pub bid-within : (plan : PlanData) (d n : ℕ) (planned : DeviceData) → IsPlan plan → node plan d ≡ Device planned → n ≤ change_count plan d →
    AllWithinLimit demand_limit (bid_of planned.kind (state plan d n) plan.arrays plan.basis.steps)
bid-within plan d n planned is here within =
    bid_of-within planned.kind (state plan d n) plan.arrays plan.basis.steps (is.within.devices d planned here).kind
    (state-fits plan d n planned is here within) (λ _. is.arrays.within)

-- the bid of a device in the state after its first n changes never rises from step to step
pub bid-falls : (plan : PlanData) (d n : ℕ) (planned : DeviceData) → IsPlan plan → node plan d ≡ Device planned →
    NeverRises (bid_of planned.kind (state plan d n) plan.arrays plan.basis.steps)
bid-falls plan d n planned is here = bid_of-falls planned.kind (state plan d n) plan.arrays plan.basis.steps (is.within.devices d planned here).kind
    (λ _. is.arrays.fall)

-- the bid of a node lies within the limit, where that of a device does
node_bid-within : (plan : PlanData) (n : NodeData) (z : ℤ) →
    ((planned : DeviceData) → n ≡ Device planned → AllWithinLimit demand_limit (bid_of planned.kind z plan.arrays plan.basis.steps)) →
    AllWithinLimit demand_limit (node_bid plan n z)
node_bid-within plan Concentrator z within = zeros-within demand_limit plan.basis.steps
node_bid-within plan (Limited limits) z within = zeros-within demand_limit plan.basis.steps
node_bid-within plan (Device planned) z within = within planned refl

-- a node's demand in a cut, of no more than its changes, lies within the limit of a demand at each step
pub demand-within : (plan : PlanData) (cut : Cut) (d : ℕ) → IsPlan plan → cut d ≤ change_count plan d →
    AllWithinLimit demand_limit (demand_in_cut plan (state plan) cut d)
unfolding demand_in_cut
demand-within plan cut d is within =
    chosen (AllWithinLimit demand_limit) (is_member plan d (cut d)) _ _
    (node_bid-within plan (node plan d) (state plan d (cut d)) (λ planned here. bid-within plan d (cut d) planned is here within))
    (zeros-within demand_limit plan.basis.steps)

-- an element of a list within a limit, or nothing beyond its end
element-within : (limit : ℕ) (bid : List ℤ) (k : ℕ) → AllWithinLimit limit bid → IsWithin limit (demand_at bid k)
element-within limit bid k all = elim (cases_lt k (length bid)) [
  | inl inside ↦ all k inside
  | inr beyond ↦ subst (IsWithin limit) (sym (get_or-eq_default bid (pos 0) {n = k} beyond)) (none-within limit)
]

-- a node's power in a cut, of no more than its changes, lies within the limit of a demand
pub power-within : (plan : PlanData) (cut : Cut) (d : ℕ) → IsPlan plan → cut d ≤ change_count plan d →
    IsWithin demand_limit (power plan (state plan) cut d)
unfolding power
power-within plan cut d is within =
    element-within demand_limit (demand_in_cut plan (state plan) cut d) (local_step_in plan (state plan) cut d) (demand-within plan cut d is within)

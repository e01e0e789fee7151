-- The sum of a group never rises with the step, and no more does the total; limits that some step keeps are kept at the
-- group's step.
use Rattle.std.proofs.Common.{◌≡◌, ◌∙◌, sym, ap, subst, ℕ, zero, suc, ◌+◌, ◌-◌, ◌<◌, ◌≤◌, ℤ, pos, ◌≤ℤ◌, Bool, true}
use Rattle.std.proofs.Common.{false, cond, eqb, inl, inr}
use Rattle.std.proofs.Common.{List, length, arith}
use Rattle.std.specs.Prelude.{int_lt, Option, Some, None}
use Rattle.std.proofs.lemmas.Int.{ints, clamps}
use Rattle.std.proofs.lemmas.Bool.{cases_lt, cases_eq, cases_Bool, cond_both}
use Rattle.pm_base.specs.declared.limits.Limits.{Limits}
use Rattle.pm_base.specs.Cuts.{Cut}
use Rattle.pm_base.proofs.Ints.{is_not_below}
use Rattle.pm_bid.specs.Bids.{demand_at, nearest_in_range, NeverRises}
use Rattle.pm_bid.specs.Clearing.{first_at_most, last_at_least}
use Rattle.pm_bid.specs.Limited.{step_within, within_limits}
use Rattle.pm_bid.proofs.EachStep.{clamp-at}
use Rattle.pm_bid.proofs.Taken.{falls_to}
use Rattle.pm_bid.proofs.FoundStep.{first_at_most_is_first, last_at_least_is_last}
use Rattle.pm_market.specs.Lists.{is_leaf}
use Rattle.pm_plan.specs.Plans.{PlanData, NodeData, node, is_member, is_limited, limits_of, group}
use Rattle.pm_plan.specs.Kept.{IsPlan}
use Rattle.pm_plan.specs.Auction.{node_bid, demand_in_cut, sum_in, announcement, total}
use Rattle.pm_plan.specs.States.{state}
use Rattle.pm_plan.specs.Market.{plan_lists}
use Rattle.pm_plan.proofs.DeviceNodes.{device-is}
use Rattle.pm_plan.proofs.Fits.{bid-steps, bid-falls}
use Rattle.pm_plan.proofs.MarketLists.{is_leaf-is}
use Rattle.pm_offer.specs.Powers.{KeepsLimits}
use Rattle.pm_offer.proofs.Sums.{sum_at_most, demand_where}
use Rattle.pm_offer.proofs.Steps.{watts, no_watts, sum_steps, sum_in_at, announced_watts, announced_sum, total_steps, total_is}

-- ---- no demand rises

bid_falls : (plan : PlanData) → IsPlan plan → (d n : ℕ) → is_leaf (plan_lists plan) d ≡ true →
    NeverRises (node_bid plan (node plan d) (state plan d n))
bid_falls plan is d n leaf =
    let device = device-is (node plan d) (is.nodes.devices d ∙ sym (is_leaf-is plan d) ∙ leaf) in
    subst (λ (m : NodeData). NeverRises (node_bid plan m (state plan d n))) (sym device.1) (bid-falls plan d n device.0 is device.1)

-- the watts of a member are those of its bid, and else there are none
watts_are : (plan : PlanData) (cut : Cut) (step d : ℕ) →
    watts plan cut step d ≡ cond (is_member plan d (cut d)) (demand_at (node_bid plan (node plan d) (state plan d (cut d))) step) (pos 0)
unfolding demand_in_cut
watts_are plan cut step d = demand_where (is_member plan d (cut d)) (node_bid plan (node plan d) (state plan d (cut d))) plan.basis.steps step

falls_where : (b : Bool) (y z : ℤ) → y ≤ℤ z → cond b y (pos 0) ≤ℤ cond b z (pos 0)
falls_where true y z h = h
falls_where false y z h = omega (arith, ints)

watts_fall : (plan : PlanData) → IsPlan plan → (cut : Cut) (step d : ℕ) → step + 1 < plan.basis.steps →
    watts plan cut (step + 1) d ≤ℤ watts plan cut step d
watts_fall plan is cut step d inside = elim (cases_Bool (is_leaf (plan_lists plan) d)) [
  | inr other ↦ omega (arith, ints, no_watts plan is cut (step + 1) d other, no_watts plan is cut step d other)
  | inl leaf ↦
      let bid : List ℤ = node_bid plan (node plan d) (state plan d (cut d)) in
      let long : length bid ≡ plan.basis.steps = bid-steps plan (node plan d) (state plan d (cut d)) is in
      let falls : demand_at bid (step + 1) ≤ℤ demand_at bid step = bid_falls plan is d (cut d) leaf step (omega arith) in
      let later = watts_are plan cut (step + 1) d in
      let here = watts_are plan cut step d in
      omega (arith, ints, later, here, falls_where (is_member plan d (cut d)) (demand_at bid (step + 1)) (demand_at bid step) falls)
]

-- the sum of a group never rises with the step
pub sum_falls : (plan : PlanData) → IsPlan plan → (cut : Cut) (g : ℕ) → NeverRises (sum_in plan (state plan) cut g)
sum_falls plan is cut g step more =
    let inside : step + 1 < plan.basis.steps = subst (λ (n : ℕ). step + 1 < n) (sum_steps plan is cut g) more in
    let next = sum_in_at plan is cut g (step + 1) inside in
    let here = sum_in_at plan is cut g step (omega arith) in
    let each = sum_at_most (length plan.nodes)
    (λ d. cond (eqb (group plan d) g) (watts plan cut (step + 1) d) (pos 0)) (λ d. cond (eqb (group plan d) g) (watts plan cut step d) (pos 0))
    (λ d one le. falls_where (eqb (group plan d) g) (watts plan cut (step + 1) d) (watts plan cut step d) (watts_fall plan is cut step d inside)) in
    omega (arith, ints, next, here, each)

-- the nearest number within limits does not rise where the number falls
nearest_falls : (floor ceiling y z : ℤ) → y ≤ℤ z → nearest_in_range floor ceiling y ≤ℤ nearest_in_range floor ceiling z
nearest_falls floor ceiling y z h = omega (arith, ints, clamps)

limited_falls : (l : Option Limits) (sum : List ℤ) → NeverRises sum → (step : ℕ) → step + 1 < length sum →
    demand_at (within_limits l sum) (step + 1) ≤ℤ demand_at (within_limits l sum) step
limited_falls None sum falls step more = falls step more
limited_falls (Some l) sum falls step more =
    let next = clamp-at l.floor l.ceiling sum (step + 1) more in
    let here = clamp-at l.floor l.ceiling sum step (omega arith) in
    let nearer = nearest_falls l.floor l.ceiling (demand_at sum (step + 1)) (demand_at sum step) (falls step more) in
    omega (arith, ints, next, here, nearer)

announced_falls : (plan : PlanData) → IsPlan plan → (cut : Cut) (g step : ℕ) → step + 1 < plan.basis.steps →
    announced_watts plan cut (step + 1) g ≤ℤ announced_watts plan cut step g
unfolding announcement
announced_falls plan is cut g step inside =
    limited_falls (limits_of (node plan g)) (sum_in plan (state plan) cut g) (sum_falls plan is cut g) step
    (subst (λ (n : ℕ). step + 1 < n) (sym (sum_steps plan is cut g)) inside)

-- the total never rises
pub total_falls : (plan : PlanData) → IsPlan plan → (cut : Cut) → NeverRises (total plan (state plan) cut)
total_falls plan is cut step more =
    let inside : step + 1 < plan.basis.steps = subst (λ (n : ℕ). step + 1 < n) (total_steps plan is cut) more in
    let free = sum_falls plan is cut 0 step (subst (λ (n : ℕ). step + 1 < n) (sym (sum_steps plan is cut 0)) inside) in
    let each = sum_at_most (length plan.nodes)
    (λ g. cond (is_limited plan g) (announced_watts plan cut (step + 1) g) (pos 0)) (λ g. cond (is_limited plan g) (announced_watts plan cut step g) (pos 0))
    (λ g one le. falls_where (is_limited plan g) (announced_watts plan cut (step + 1) g) (announced_watts plan cut step g)
    (announced_falls plan is cut g step inside)) in
    let next = total_is plan is cut (step + 1) inside in
    let here = total_is plan is cut step (omega arith) in
    omega (arith, ints, next, here, announced_sum plan cut (step + 1), announced_sum plan cut step, free, each)

-- ---- the step of a group keeps its limits, where some step does

first_keeps : (l : Limits) (sum : List ℤ) (k : ℕ) → NeverRises sum → k < length sum →
    KeepsLimits l (demand_at sum k) → KeepsLimits l (demand_at sum (first_at_most l.ceiling sum))
first_keeps l sum k falls inside keeps =
    let j : ℕ = first_at_most l.ceiling sum in
    let first = first_at_most_is_first l.ceiling sum (omega arith) in
    let early : j ≤ k = elim (cases_lt k j) [
      | inl below ↦ absurd (omega (arith, ints, first.before k below, keeps.ceiling))
      | inr above ↦ above
    ] in
    record {
      floor = omega (arith, ints, keeps.floor, falls_to sum falls j k early inside);
      ceiling = elim (cases_lt (j + 1) (length sum)) [
        | inl more ↦ first.met more
        | inr last ↦ let same : k ≡ j = omega arith in omega (arith, ints, keeps.ceiling, ap (demand_at sum) same)
      ];
    }

last_keeps : (l : Limits) (sum : List ℤ) (k : ℕ) → NeverRises sum → k < length sum →
    KeepsLimits l (demand_at sum k) → KeepsLimits l (demand_at sum (last_at_least l.floor sum))
last_keeps l sum k falls inside keeps =
    let j : ℕ = last_at_least l.floor sum in
    let last = last_at_least_is_last l.floor sum (omega arith) in
    let late : k ≤ j = elim (cases_lt j k) [
      | inl above ↦ absurd (omega (arith, ints, last.after k above inside, keeps.floor))
      | inr below ↦ below
    ] in
    record {
      floor = elim (cases_eq j 0) [
        | inl none ↦ let same : k ≡ j = omega arith in omega (arith, ints, keeps.floor, ap (demand_at sum) same)
        | inr some ↦ last.met (omega arith)
      ];
      ceiling = omega (arith, ints, keeps.ceiling, falls_to sum falls k j late last.inside);
    }

step_keeps : (l : Limits) (sum : List ℤ) (plain k : ℕ) → NeverRises sum → k < length sum →
    KeepsLimits l (demand_at sum k) → KeepsLimits l (demand_at sum (step_within l plain sum))
step_keeps l sum plain k falls inside keeps =
    let P : ℕ → Type 0 = λ m. KeepsLimits l (demand_at sum m) in
    cond_both (int_lt l.ceiling (demand_at sum plain)) (first_at_most l.ceiling sum) _ P
    (λ above. first_keeps l sum k falls inside keeps)
    (λ not_above. cond_both (int_lt (demand_at sum plain) l.floor) (last_at_least l.floor sum) plain P
    (λ below. last_keeps l sum k falls inside keeps)
    (λ not_below. record {
      floor = is_not_below (demand_at sum plain) l.floor not_below;
      ceiling = is_not_below l.ceiling (demand_at sum plain) not_above;
    }))

-- limits that a group's sum keeps at a step of the basis it also keeps at any step moved within them
pub group_keeps : (plan : PlanData) → IsPlan plan → (cut : Cut) (g plain k : ℕ) (l : Limits) → k < plan.basis.steps →
    KeepsLimits l (demand_at (sum_in plan (state plan) cut g) k) →
    KeepsLimits l (demand_at (sum_in plan (state plan) cut g) (step_within l plain (sum_in plan (state plan) cut g)))
group_keeps plan is cut g plain k l inside keeps =
    step_keeps l (sum_in plan (state plan) cut g) plain k (sum_falls plan is cut g) (subst (λ (n : ℕ). k < n) (sym (sum_steps plan is cut g)) inside) keeps

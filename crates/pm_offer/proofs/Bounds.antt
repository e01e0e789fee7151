-- The sum of the children of a node lies within the limit of a sum, in every cut.
use Rattle.std.proofs.Common.{Option, Some, None, ◌≡◌, ◌∙◌, sym, ap, subst, ℕ, ◌<◌, ◌≤◌, ℤ, pos, ◌+ℤ◌, ◌≤ℤ◌, Bool, true}
use Rattle.std.proofs.Common.{false, cond, eqb, inl, inr}
use Rattle.std.proofs.Common.{List, length, refl, arith}
use Rattle.std.specs.Prelude.{◌&&◌, not}
use Rattle.std.proofs.lemmas.Int.{ints, clamps}
use Rattle.std.proofs.lemmas.Bool.{cases_Bool, cases_eq, cases_lt, cond-false, and_parts, ne_eqb, eq-eqb}
use Rattle.std.proofs.lemmas.List.{take_all}
use Rattle.pm_base.specs.declared.limits.Limits.{Limits}
use Rattle.pm_base.specs.Limits.{demand_limit, sum_limit, IsWithin}
use Rattle.pm_base.specs.Cuts.{Cut}
use Rattle.pm_bid.specs.Bids.{demand_at, zeros, AllWithinLimit, nearest_in_range}
use Rattle.pm_bid.specs.Limited.{within_limits}
use Rattle.pm_bid.proofs.EachStep.{clamp-at}
use Rattle.pm_market.specs.Lists.{parent, is_leaf, IsInner, is_below}
use Rattle.pm_market.specs.Offers.{int_sum_to}
use Rattle.pm_plan.specs.declared.planned.Change.{Change}
use Rattle.pm_plan.specs.Devices.{is_member_after}
use Rattle.pm_plan.specs.declared.node.Node.TheVariants.{Concentrator, Limited, Device}
use Rattle.pm_plan.specs.Plans.{PlanData, NodeData, node, changes_of, change_count, limits_of, is_member, is_limited, group}
use Rattle.pm_plan.specs.Kept.{IsPlan}
use Rattle.pm_plan.specs.Auction.{node_bid, demand_in_cut, sum_in, announcement}
use Rattle.pm_plan.specs.States.{state_after, node_state, state_by_rows, state}
use Rattle.pm_plan.specs.Market.{plan_lists}
use Rattle.pm_plan.proofs.DeviceNodes.{limits_of-tells}
use Rattle.pm_plan.proofs.Fits.{demand-within}
use Rattle.pm_plan.proofs.Drafts.{limited_is_no_root}
use Rattle.pm_laws.proofs.Offers.{int_sum_same, int_sum_add, int_sum_swap, int_sum_only}
use Rattle.pm_offer.specs.Offers.{device_demand, children_sum}
use Rattle.pm_offer.proofs.Sums.{IsNear, near_more, near_sum, near_where, sum_zeros, sum_where, sum_at_most}
use Rattle.pm_offer.proofs.Sums.{sum_of_copies, none_where}
use Rattle.pm_offer.proofs.GroupNodes.{is_limited_below}
use Rattle.pm_offer.proofs.Steps.{demand_steps, watts, announced_watts, sum_steps, sum_in_at, own_below, limited_below, limited_split}
use Rattle.pm_offer.proofs.Steps.{children_length, children_is}
use Rattle.pm_offer.proofs.Offers.{group_inside}

-- ---- after more changes than are planned a device is as after all of them

node_state-all : (n : NodeData) (powers : ℕ → ℤ) (k : ℕ) → length (changes_of n) ≤ k →
    node_state n powers k ≡ node_state n powers (length (changes_of n))
node_state-all Concentrator powers k h = refl
node_state-all (Limited limits) powers k h = refl
node_state-all (Device planned) powers k h =
    ap (λ (l : List Change). state_after planned powers l)
    (take_all k planned.changes h ∙ sym (take_all (length planned.changes) planned.changes (omega arith)))

state-all : (plan : PlanData) (d n : ℕ) → change_count plan d ≤ n → state plan d n ≡ state plan d (change_count plan d)
unfolding state state_by_rows
state-all plan d n h = node_state-all (node plan d) _ n h

member-all : (plan : PlanData) (d n : ℕ) → change_count plan d ≤ n → is_member plan d n ≡ is_member plan d (change_count plan d)
unfolding is_member
member-all plan d n h =
    ap (λ (l : List Change). is_member_after l)
    (take_all n (changes_of (node plan d)) h ∙ sym (take_all (change_count plan d) (changes_of (node plan d)) (omega arith)))

demand-all : (plan : PlanData) (d n : ℕ) → change_count plan d ≤ n → device_demand plan d n ≡ device_demand plan d (change_count plan d)
unfolding demand_in_cut
demand-all plan d n h =
    ap (λ b. cond b (node_bid plan (node plan d) (state plan d n)) (zeros plan.basis.steps)) (member-all plan d n h)
    ∙ ap (λ z. cond (is_member plan d (change_count plan d)) (node_bid plan (node plan d) z) (zeros plan.basis.steps))
    (state-all plan d n h)

-- so its demand always lies within the limit of one demand
pub demand_bounded : (plan : PlanData) → IsPlan plan → (d n : ℕ) → AllWithinLimit demand_limit (device_demand plan d n)
demand_bounded plan is d n = elim (cases_lt (change_count plan d) n) [
  | inl beyond ↦
      subst (λ bid. AllWithinLimit demand_limit bid) (sym (demand-all plan d n (omega arith)))
      (demand-within plan (λ e. change_count plan d) d is (omega arith))
  | inr inside ↦ demand-within plan (λ e. n) d is inside
]

watts_near : (plan : PlanData) → IsPlan plan → (cut : Cut) (step d : ℕ) → step < plan.basis.steps → IsNear (pos demand_limit) (watts plan cut step d)
watts_near plan is cut step d inside =
    let within = demand_bounded plan is d (cut d) step (subst (λ (n : ℕ). step < n) (sym (demand_steps plan is d (cut d))) inside) in
    record { low = omega (arith, ints, within.low); high = omega (arith, ints, within.high) }

-- ---- a group announces no more than its devices can take

-- the limit of the devices of group g, added up
abbrev group_limit : PlanData → ℕ → ℤ
group_limit plan g = int_sum_to (length plan.nodes) (λ d. cond (eqb (group plan d) g) (pos demand_limit) (pos 0))

sum_near : (plan : PlanData) → IsPlan plan →
    (cut : Cut) (step g : ℕ) → step < plan.basis.steps → IsNear (group_limit plan g) (demand_at (sum_in plan (state plan) cut g) step)
sum_near plan is cut step g inside =
    subst (IsNear (group_limit plan g)) (sym (sum_in_at plan is cut g step inside))
    (near_sum (length plan.nodes) (λ d. cond (eqb (group plan d) g) (pos demand_limit) (pos 0))
    (λ d. cond (eqb (group plan d) g) (watts plan cut step d) (pos 0))
    (λ d one le. near_where (eqb (group plan d) g) (pos demand_limit) (watts plan cut step d) (watts_near plan is cut step d inside)))

nearest_near : (limit floor ceiling z : ℤ) → floor ≤ℤ pos 0 → pos 0 ≤ℤ ceiling → IsNear limit z →
    IsNear limit (nearest_in_range floor ceiling z)
nearest_near limit floor ceiling z low high h = record { low = omega (arith, ints, clamps, h.low, h.high); high = omega (arith, ints, clamps, h.low, h.high) }

limited_near : (plan : PlanData) → IsPlan plan →
    (g : ℕ) (l : Option Limits) (limit : ℤ) (bid : List ℤ) (step : ℕ) → limits_of (node plan g) ≡ l → step < length bid →
    IsNear limit (demand_at bid step) → IsNear limit (demand_at (within_limits l bid) step)
limited_near plan is g None limit bid step e inside h = h
limited_near plan is g (Some l) limit bid step e inside h =
    let limits = is.within.limits g l (limits_of-tells (node plan g) l e) in
    subst (IsNear limit) (sym (clamp-at l.floor l.ceiling bid step inside))
    (nearest_near limit l.floor l.ceiling (demand_at bid step) limits.floor_not_positive limits.ceiling_not_negative h)

announced_near : (plan : PlanData) → IsPlan plan →
    (cut : Cut) (step g : ℕ) → step < plan.basis.steps → IsNear (group_limit plan g) (announced_watts plan cut step g)
unfolding announcement
announced_near plan is cut step g inside =
    limited_near plan is g (limits_of (node plan g)) (group_limit plan g) (sum_in plan (state plan) cut g) step refl
    (subst (λ (n : ℕ). step < n) (sym (sum_steps plan is cut g)) inside) (sum_near plan is cut step g inside)

-- ---- each device counts once: itself, or in its group

-- the limits of the groups of the limited concentrators below y, added up: each device counts where its group is one of them
abbrev groups_limit : PlanData → ℕ → ℕ → ℤ
groups_limit plan y d = cond (is_limited_below plan y (group plan d)) (pos demand_limit) (pos 0)

-- of the groups only that of the device counts it
one_group : (plan : PlanData) → IsPlan plan → (y d : ℕ) → d ≤ length plan.nodes →
    int_sum_to (length plan.nodes) (λ g. cond (is_limited_below plan y g) (cond (eqb (group plan d) g) (pos demand_limit) (pos 0)) (pos 0))
    ≡ groups_limit plan y d
one_group plan is y d inside =
    let n : ℕ = length plan.nodes in
    let h : ℕ = group plan d in
    let term : ℕ → ℤ = λ g. cond (is_limited_below plan y g) (cond (eqb h g) (pos demand_limit) (pos 0)) (pos 0) in
    elim (cases_Bool (is_limited_below plan y h)) [
      | inl counts ↦
          let one : 1 ≤ h = limited_is_no_root plan h (and_parts (is_limited plan h) (is_below (plan_lists plan) y (parent (plan_lists plan) h)) counts).0 in
          int_sum_only n term h one (group_inside plan is d inside)
          (λ g other g_one g_le. ap (λ b. cond (is_limited_below plan y g) (cond b (pos demand_limit) (pos 0)) (pos 0))
          (ne_eqb h g (λ e. other (sym e))) ∙ none_where (is_limited_below plan y g))
          ∙ ap (λ b. cond (is_limited_below plan y h) (cond b (pos demand_limit) (pos 0)) (pos 0)) (eq-eqb h h refl)
      | inr not_counted ↦
          sum_zeros n term (λ g g_one g_le. elim (cases_eq h g) [
            | inl same ↦ cond-false (is_limited_below plan y g) (cond (eqb h g) (pos demand_limit) (pos 0)) (pos 0)
                (ap (is_limited_below plan y) (sym same) ∙ not_counted)
            | inr other ↦ ap (λ b. cond (is_limited_below plan y g) (cond b (pos demand_limit) (pos 0)) (pos 0)) (ne_eqb h g other)
                ∙ none_where (is_limited_below plan y g)
          ])
          ∙ sym (cond-false (is_limited_below plan y h) (pos demand_limit) (pos 0) not_counted)
    ]

groups_once : (plan : PlanData) → IsPlan plan → (y : ℕ) →
    int_sum_to (length plan.nodes) (λ g. cond (is_limited_below plan y g) (group_limit plan g) (pos 0))
    ≡ int_sum_to (length plan.nodes) (groups_limit plan y)
groups_once plan is y =
    let n : ℕ = length plan.nodes in
    let term : ℕ → ℕ → ℤ = λ g d. cond (eqb (group plan d) g) (pos demand_limit) (pos 0) in
    int_sum_same n (λ g. cond (is_limited_below plan y g) (int_sum_to n (term g)) (pos 0))
    (λ g. int_sum_to n (λ d. cond (is_limited_below plan y g) (term g d) (pos 0)))
    (λ g one le. sum_where (is_limited_below plan y g) n (term g))
    ∙ int_sum_swap n n (λ g d. cond (is_limited_below plan y g) (term g d) (pos 0))
    ∙ int_sum_same n _ (groups_limit plan y) (λ d one le. one_group plan is y d le)

-- the limit of a device that counts itself
abbrev own_limit : PlanData → ℕ → ℕ → ℤ
own_limit plan y d =
    cond (is_below (plan_lists plan) y (parent (plan_lists plan) d))
    (cond (is_leaf (plan_lists plan) d && not (is_limited_below plan y (group plan d))) (pos demand_limit) (pos 0)) (pos 0)

count_once : (below leaf grouped : Bool) →
    (cond below (cond (leaf && not grouped) (pos demand_limit) (pos 0)) (pos 0) +ℤ cond grouped (pos demand_limit) (pos 0)) ≤ℤ pos demand_limit
count_once true true true = omega (arith, ints)
count_once true true false = omega (arith, ints)
count_once true false true = omega (arith, ints)
count_once true false false = omega (arith, ints)
count_once false leaf true = omega (arith, ints)
count_once false leaf false = omega (arith, ints)

all_once : (plan : PlanData) → IsPlan plan → (y : ℕ) →
    (int_sum_to (length plan.nodes) (own_limit plan y)
    +ℤ int_sum_to (length plan.nodes) (λ g. cond (is_limited_below plan y g) (group_limit plan g) (pos 0))) ≤ℤ pos sum_limit
all_once plan is y =
    let n : ℕ = length plan.nodes in
    let few = is.nodes.few in
    let most : int_sum_to n (λ d. own_limit plan y d +ℤ groups_limit plan y d) ≤ℤ int_sum_to n (λ d. pos demand_limit) =
    sum_at_most n (λ d. own_limit plan y d +ℤ groups_limit plan y d) (λ d. pos demand_limit)
    (λ d one le. count_once (is_below (plan_lists plan) y (parent (plan_lists plan) d))
    (is_leaf (plan_lists plan) d) (is_limited_below plan y (group plan d))) in
    let whole = int_sum_add n (own_limit plan y) (groups_limit plan y) in
    let copies = sum_of_copies n demand_limit in
    let groups = groups_once plan is y in
    omega (arith, ints, most, whole, copies, groups)

within_from_near : (limit number : ℤ) → IsNear limit number → limit ≤ℤ pos sum_limit → IsWithin sum_limit number
within_from_near limit number h few = record { low = omega (arith, ints, h.low); high = omega (arith, ints, h.high) }

children_near : (plan : PlanData) → IsPlan plan →
    (y : ℕ) (cut : Cut) (step : ℕ) → step < plan.basis.steps → IsWithin sum_limit (demand_at (children_sum plan y cut) step)
children_near plan is y cut step inside =
    let lists = plan_lists plan in
    let n : ℕ = length plan.nodes in
    let own : IsNear (int_sum_to n (own_limit plan y)) (int_sum_to n (own_below plan y cut step)) =
    near_sum n (own_limit plan y) (own_below plan y cut step)
    (λ d one le. near_where (is_below lists y (parent lists d)) _ _
    (near_where (is_leaf lists d && not (is_limited_below plan y (group plan d)))
    (pos demand_limit) (watts plan cut step d) (watts_near plan is cut step d inside))) in
    let lim : IsNear (int_sum_to n (λ g. cond (is_limited_below plan y g) (group_limit plan g) (pos 0))) (int_sum_to n (limited_below plan y cut step)) =
    near_sum n (λ g. cond (is_limited_below plan y g) (group_limit plan g) (pos 0)) (limited_below plan y cut step)
    (λ g one le. subst (IsNear (cond (is_limited_below plan y g) (group_limit plan g) (pos 0)))
    (limited_split (is_limited plan g) (is_below lists y (parent lists g)) (announced_watts plan cut step g))
    (near_where (is_limited_below plan y g) (group_limit plan g) (announced_watts plan cut step g) (announced_near plan is cut step g inside))) in
    subst (IsWithin sum_limit) (sym (children_is plan is y cut step inside))
    (within_from_near _ _ (near_more _ _ _ _ own lim) (all_once plan is y))

-- the sum of the offers of the children of a node that is no leaf is within the limit of a sum
pub children_within : (plan : PlanData) (y : ℕ) (cut : Cut) → IsPlan plan → IsInner (plan_lists plan) y →
    AllWithinLimit sum_limit (children_sum plan y cut)
children_within plan y cut is inner step inside =
    children_near plan is y cut step (subst (λ (n : ℕ). step < n) (children_length plan is y cut) inside)

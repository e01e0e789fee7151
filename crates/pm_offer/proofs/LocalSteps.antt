-- Steps go down the tree: a child of the auctioneer takes the step of the clearing, and a child of a concentrator the step of
-- the concentrator, moved where the concentrator's limits ask for it.
use Rattle.std.proofs.Common.{Option, Some, None, ◌≡◌, ◌∙◌, sym, ap, subst, ℕ, ◌<◌, ◌≤◌, ℤ, pos, inl, inr, List, length, arith}
use Rattle.std.specs.Prelude.{int_lt}
use Rattle.std.proofs.lemmas.Bool.{cases_Bool}
use Rattle.pm_base.specs.declared.limits.Limits.{Limits}
use Rattle.pm_base.specs.Cuts.{Cut}
use Rattle.pm_base.proofs.Bools.{chosen}
use Rattle.pm_base.proofs.Options.{none_of}
use Rattle.pm_bid.specs.Bids.{demand_at}
use Rattle.pm_bid.specs.Clearing.{clearing_step, first_at_most, last_at_least}
use Rattle.pm_bid.specs.Limited.{local_step}
use Rattle.pm_bid.proofs.FoundStep.{first_at_most_is_first, last_at_least_is_last}
use Rattle.pm_market.specs.Lists.{parent, IsNode, IsConcentrator}
use Rattle.pm_plan.specs.Plans.{PlanData, node, limits_of, is_limited, group}
use Rattle.pm_plan.specs.Kept.{IsPlan}
use Rattle.pm_plan.specs.Auction.{sum_in, total, plain_step, local_step_of_group, local_step_in}
use Rattle.pm_plan.specs.States.{state}
use Rattle.pm_plan.specs.Market.{plan_lists}
use Rattle.pm_plan.proofs.Groups.{group-zero}
use Rattle.pm_offer.specs.Offers.{children_sum, local_step_at}
use Rattle.pm_offer.proofs.GroupNodes.{nodes_are, group_here, group_on}
use Rattle.pm_offer.proofs.Steps.{sum_steps, total_steps}
use Rattle.pm_offer.proofs.Offers.{limited_sum, offer_total}

-- a node of group 0 takes the step of the plain auction
free_step : (plan : PlanData) (cut : Cut) (x : ℕ) → group plan x ≡ 0 → local_step_at plan cut x ≡ plain_step plan (state plan) cut
unfolding local_step_in local_step_of_group
free_step plan cut x h = ap (λ g. local_step_of_group plan (state plan) cut (plain_step plan (state plan) cut) g) h

-- nodes of one group take one step
same_step : (plan : PlanData) (cut : Cut) (x y : ℕ) → group plan x ≡ group plan y → local_step_at plan cut x ≡ local_step_at plan cut y
unfolding local_step_in
same_step plan cut x y h = ap (local_step_of_group plan (state plan) cut (plain_step plan (state plan) cut)) h

-- a node of a limited group takes the step that the group's limits allow
limited_step : (plan : PlanData) (cut : Cut) (x c : ℕ) → group plan x ≡ c →
    local_step_at plan cut x ≡ local_step (limits_of (node plan c)) (plain_step plan (state plan) cut) (sum_in plan (state plan) cut c)
unfolding local_step_in local_step_of_group
limited_step plan cut x c h = ap (local_step_of_group plan (state plan) cut (plain_step plan (state plan) cut)) h

plain_is : (plan : PlanData) (cut : Cut) → IsPlan plan → plain_step plan (state plan) cut ≡ clearing_step (children_sum plan 0 cut)
unfolding plain_step
plain_is plan cut is = ap clearing_step (offer_total plan cut is)

-- the group of a child of the auctioneer
root_group : (plan : PlanData) (x : ℕ) → IsPlan plan → IsNode (plan_lists plan) x → parent (plan_lists plan) x ≡ 0 → group plan x ≡ 0
root_group plan x is here up =
    group_on plan is x here.0 (subst (λ (n : ℕ). x ≤ n) (nodes_are plan is) here.1) (ap (is_limited plan) up)
    ∙ ap (group plan) up ∙ group-zero plan

-- the auctioneer's children take the step at which the sum of their offers clears
pub local_root : (plan : PlanData) (x : ℕ) (cut : Cut) → IsPlan plan → IsNode (plan_lists plan) x → parent (plan_lists plan) x ≡ 0 →
    local_step_at plan cut x ≡ clearing_step (children_sum plan 0 cut)
local_root plan x cut is here up = free_step plan cut x (root_group plan x is here up) ∙ plain_is plan cut is

-- a concentrator's children take its local step, as its limits, if any, move it for the sum of their offers
pub local_below : (plan : PlanData) (x : ℕ) (cut : Cut) → IsPlan plan →
    IsNode (plan_lists plan) x → IsConcentrator (plan_lists plan) (parent (plan_lists plan) x) →
    local_step_at plan cut x
    ≡ local_step (limits_of (node plan (parent (plan_lists plan) x)))
    (local_step_at plan cut (parent (plan_lists plan) x)) (children_sum plan (parent (plan_lists plan) x) cut)
local_below plan x cut is here inner =
    let c : ℕ = parent (plan_lists plan) x in
    elim (cases_Bool (is_limited plan c)) [
      | inl limited ↦
          limited_step plan cut x c (group_here plan x here.0 limited)
          ∙ ap (local_step (limits_of (node plan c)) (plain_step plan (state plan) cut)) (limited_sum plan is c cut limited)
          ∙ ap (λ k. local_step (limits_of (node plan c)) k (children_sum plan c cut)) (sym (free_step plan cut c (is.one_limit c limited)))
      | inr free ↦
          same_step plan cut x c (group_on plan is x here.0 (subst (λ (n : ℕ). x ≤ n) (nodes_are plan is) here.1) free)
          ∙ sym (ap (λ l. local_step l (local_step_at plan cut c) (children_sum plan c cut)) (none_of (limits_of (node plan c)) free))
    ]

-- ---- steps are steps of the basis

-- the first step with a demand of at most a limit is a step of the bid, where the bid has any
pub first_inside : (limit : ℤ) (bid : List ℤ) → 1 ≤ length bid → first_at_most limit bid < length bid
first_inside limit bid some = (first_at_most_is_first limit bid some).inside

-- the last step with a demand of at least a limit is a step of the bid, where the bid has any
pub last_inside : (limit : ℤ) (bid : List ℤ) → 1 ≤ length bid → last_at_least limit bid < length bid
last_inside limit bid some = (last_at_least_is_last limit bid some).inside

step_inside : (l : Option Limits) (k : ℕ) (sum : List ℤ) → 1 ≤ length sum → k < length sum → local_step l k sum < length sum
step_inside None k sum some inside = inside
step_inside (Some limits) k sum some inside =
    let P : ℕ → Type 0 = λ m. m < length sum in
    chosen P (int_lt limits.ceiling (demand_at sum k)) (first_at_most limits.ceiling sum) _ (first_inside limits.ceiling sum some)
    (chosen P (int_lt (demand_at sum k) limits.floor) (last_at_least limits.floor sum) k (last_inside limits.floor sum some) inside)

-- the step of the plain auction is a step of the basis
pub plain_inside : (plan : PlanData) (cut : Cut) → IsPlan plan → plain_step plan (state plan) cut < plan.basis.steps
unfolding plain_step
plain_inside plan cut is =
    let long = total_steps plan is cut in
    subst (λ (n : ℕ). clearing_step (total plan (state plan) cut) < n) long
    (first_inside (pos 0) (total plan (state plan) cut) (let least = is.basis.steps.least in omega arith))

-- the step of a group in the plain auction is a step of the basis
pub group_step_inside : (plan : PlanData) (cut : Cut) (g : ℕ) → IsPlan plan →
    local_step_of_group plan (state plan) cut (plain_step plan (state plan) cut) g < plan.basis.steps
unfolding local_step_of_group
group_step_inside plan cut g is =
    let long = sum_steps plan is cut g in
    let first = plain_inside plan cut is in
    subst (λ (n : ℕ). local_step (limits_of (node plan g)) (plain_step plan (state plan) cut) (sum_in plan (state plan) cut g) < n) long
    (step_inside (limits_of (node plan g)) (plain_step plan (state plan) cut) (sum_in plan (state plan) cut g) (omega arith) (omega arith))

-- the local step of a node is a step of the basis
pub local_inside : (plan : PlanData) (x : ℕ) (cut : Cut) → IsPlan plan → local_step_at plan cut x < plan.basis.steps
unfolding local_step_in
local_inside plan x cut is = group_step_inside plan cut (group plan x) is

-- The laws in the order of their clauses.
use Rattle.std.proofs.Common.{◌≡◌, ◌∙◌, sym, ap, ℕ, ℤ, ◌+◌, ◌<◌, ◌≤◌, ◌+ℤ◌, List, length, map, Some}
use Rattle.std.proofs.Math.Path.{fun_ext}
use Rattle.pm_tree.specs.Entries.{children_of}
use Rattle.pm_base.specs.Cuts.{Cut}
use Rattle.pm_base.specs.Limits.{sum_limit}
use Rattle.pm_base.specs.declared.limits.Limits.{Limits}
use Rattle.pm_bid.specs.Bids.{AllWithinLimit, NeverRises, demand_at, sum_of}
use Rattle.pm_bid.specs.Clearing.{clearing_step}
use Rattle.pm_bid.specs.Limited.{within_limits, local_step}
use Rattle.pm_market.specs.Lists.{parent, IsNode, IsLeaf, IsInner, IsConcentrator}
use Rattle.pm_market.specs.State.{SameOn}
use Rattle.pm_market.proofs.Tree.{leaf_of_parts}
use Rattle.pm_plan.specs.Plans.{PlanData, node, limits_of, end_cut}
use Rattle.pm_plan.specs.Kept.{IsPlan, change_at}
use Rattle.pm_plan.specs.Auction.{sum_in, total, plain_step, local_step_of_group}
use Rattle.pm_plan.specs.States.{state}
use Rattle.pm_plan.specs.Market.{plan_lists}
use Rattle.pm_offer.specs.Offers.{device_demand, offer, children_sum, local_step_at}
use Rattle.pm_offer.specs.Powers.{group_power, announced_power, KeepsLimits}
use Rattle.pm_offer.proofs.Steps.{offer_length}
use Rattle.pm_offer.proofs.Offers as offers
use Rattle.pm_offer.proofs.LocalSteps as steps
use Rattle.pm_offer.proofs.Bounds as bounds
use Rattle.pm_offer.proofs.Falls as falls
use Rattle.pm_offer.proofs.PhaseChanges as phases
use Rattle.pm_offer.proofs.GroupPowers as powers

-- ---- offers go up the tree

-- the offer of a device is its demand after as many changes as the cut gives it
pub offer_device : (plan : PlanData) (d : ℕ) (cut : Cut) → IsPlan plan → IsLeaf (plan_lists plan) d → offer plan d cut ≡ device_demand plan d (cut d)
offer_device plan d cut is leaf = offers.offer_device plan d cut is leaf

-- the offer of x is the same in two cuts that are the same on the leaves of x
pub offer_alike : (plan : PlanData) (x : ℕ) (a b : Cut) → IsPlan plan → SameOn (plan_lists plan) x a b → offer plan x a ≡ offer plan x b
offer_alike plan x a b is same = offers.offer_alike plan x a b is same

-- the offer of a concentrator is the sum of its children's offers, within its limits where it has some
pub offer_inner : (plan : PlanData) (c : ℕ) (cut : Cut) → IsPlan plan → IsConcentrator (plan_lists plan) c →
    offer plan c cut ≡ within_limits (limits_of (node plan c)) (children_sum plan c cut)
offer_inner plan c cut is inner = offers.offer_inner plan c cut is inner

-- the total of a cut is the sum of the offers of the auctioneer's children
pub offer_total : (plan : PlanData) (cut : Cut) → IsPlan plan → total plan (state plan) cut ≡ children_sum plan 0 cut
offer_total plan cut is = offers.offer_total plan cut is

-- ---- steps go down the tree

-- the auctioneer's children take the step at which the sum of their offers clears
pub local_root : (plan : PlanData) (x : ℕ) (cut : Cut) → IsPlan plan → IsNode (plan_lists plan) x → parent (plan_lists plan) x ≡ 0 →
    local_step_at plan cut x ≡ clearing_step (children_sum plan 0 cut)
local_root plan x cut is here up = steps.local_root plan x cut is here up

-- a concentrator's children take its local step, as its limits, if any, move it for the sum of their offers
pub local_below : (plan : PlanData) (x : ℕ) (cut : Cut) → IsPlan plan →
    IsNode (plan_lists plan) x → IsConcentrator (plan_lists plan) (parent (plan_lists plan) x) →
    local_step_at plan cut x
    ≡ local_step (limits_of (node plan (parent (plan_lists plan) x)))
    (local_step_at plan cut (parent (plan_lists plan) x)) (children_sum plan (parent (plan_lists plan) x) cut)
local_below plan x cut is here inner = steps.local_below plan x cut is here inner

-- the local step of a node is a step of the basis
pub local_inside : (plan : PlanData) (x : ℕ) (cut : Cut) → IsPlan plan → local_step_at plan cut x < plan.basis.steps
local_inside plan x cut is = steps.local_inside plan x cut is

-- ---- totals

-- the total of a cut never rises with the step
pub total_falls : (plan : PlanData) (cut : Cut) → IsPlan plan → NeverRises (total plan (state plan) cut)
total_falls plan cut is = falls.total_falls plan is cut

-- two cuts that are the same on all devices have the same total
pub total_alike : (plan : PlanData) (a b : Cut) → IsPlan plan → ((d : ℕ) → IsLeaf (plan_lists plan) d → a d ≡ b d) →
    total plan (state plan) a ≡ total plan (state plan) b
total_alike plan a b is same =
    let offers_same : (λ (x : ℕ). offer plan x a) ≡ (λ (x : ℕ). offer plan x b) =
    fun_ext (λ (x : ℕ). offers.offer_alike plan x a b is (λ d leaf. same d (leaf_of_parts (plan_lists plan) x d leaf).0)) in
    offers.offer_total plan a is ∙ ap (λ (f : ℕ → List ℤ). sum_of plan.basis.steps (map f (children_of plan.entries 0))) offers_same
    ∙ sym (offers.offer_total plan b is)

-- ---- offers are bounded

-- an offer has as many steps as the basis
pub offer_steps : (plan : PlanData) (x : ℕ) (cut : Cut) → IsPlan plan → length (offer plan x cut) ≡ plan.basis.steps
offer_steps plan x cut is = offer_length plan is x cut

-- the sum of the offers of the children of a node that is no leaf is within the limit of a sum
pub children_within : (plan : PlanData) (y : ℕ) (cut : Cut) → IsPlan plan → IsInner (plan_lists plan) y →
    AllWithinLimit sum_limit (children_sum plan y cut)
children_within plan y cut is inner = bounds.children_within plan y cut is inner

-- ---- changes are of their phase

-- a device's changes from its number at the end of phase p up to that at the end of p + 1 are of phase p + 1
pub phase_between : (plan : PlanData) (p d n : ℕ) → IsPlan plan → end_cut plan p d ≤ n → n < end_cut plan (p + 1) d →
    (change_at plan d n).phase ≡ p + 1
phase_between plan p d n is from to = phases.phase_between plan p d n is from to

-- ---- powers add up

-- the powers of a group's members add up to the group's sum at the group's step
pub powers_group : (plan : PlanData) (g : ℕ) (cut : Cut) → IsPlan plan →
    group_power plan cut g ≡ demand_at (sum_in plan (state plan) cut g) (local_step_of_group plan (state plan) cut (plain_step plan (state plan) cut) g)
powers_group plan g cut is = powers.powers_group plan g cut is

-- at a step the total is the sum of group 0 and the announced power of the limited concentrators
pub powers_total : (plan : PlanData) (cut : Cut) (step : ℕ) → IsPlan plan → step < plan.basis.steps →
    demand_at (total plan (state plan) cut) step ≡ demand_at (sum_in plan (state plan) cut 0) step +ℤ announced_power plan cut step
powers_total plan cut step is inside = powers.powers_total plan cut step is inside

-- a group's powers add up within its limits where its sum keeps these at some step of the basis
pub powers_within : (plan : PlanData) (g : ℕ) (cut : Cut) (limits : Limits) (step : ℕ) → IsPlan plan → limits_of (node plan g) ≡ Some limits →
    step < plan.basis.steps → KeepsLimits limits (demand_at (sum_in plan (state plan) cut g) step) → KeepsLimits limits (group_power plan cut g)
powers_within plan g cut limits step is here inside keeps = powers.powers_within plan g cut limits step is here inside keeps

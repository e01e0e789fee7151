-- The laws of offers and of local steps, in the forms that the proofs of the moves use.
use Rattle.std.proofs.Common.{◌≡◌, ◌∙◌, sym, refl, ℕ, ◌<◌, ℤ, List, Option, Some, None}
use Rattle.pm_base.specs.Cuts.{Cut}
use Rattle.pm_base.specs.Limits.{sum_limit}
use Rattle.pm_base.specs.declared.limits.Limits.{Limits}
use Rattle.pm_bid.specs.Bids.{AllWithinLimit}
use Rattle.pm_bid.specs.Clearing.{clearing_step}
use Rattle.pm_bid.specs.Limited.{within_limits, local_step}
use Rattle.pm_market.specs.Lists.{parent, IsNode, IsLeaf, IsInner, IsConcentrator}
use Rattle.pm_market.specs.State.{SameOn}
use Rattle.pm_concentrator.specs.Limited.{sum_kept, local_step_of_record}
use Rattle.pm_plan.specs.Kept.{IsPlan}
use Rattle.pm_plan.specs.Plans.{PlanData}
use Rattle.pm_plan.specs.Market.{plan_lists}
use Rattle.pm_offer.specs.Offers.{offer, children_sum, local_step_at, device_demand}
use Rattle.pm_offer.proofs.Laws as laws
use Rattle.pm_stands.specs.Core.{limits_at}

-- what a device offers is its demand after as many changes as the cut says
pub offer_device : (plan : PlanData) → IsPlan plan → (d : ℕ) (cut : Cut) → IsLeaf (plan_lists plan) d →
    offer plan d cut ≡ device_demand plan d (cut d)
offer_device plan is_plan d cut leaf = laws.offer_device plan d cut is_plan leaf

-- a node offers the same over two cuts that are the same on its leaves
pub offer_alike : (plan : PlanData) → IsPlan plan → (x : ℕ) (a b : Cut) → SameOn (plan_lists plan) x a b → offer plan x a ≡ offer plan x b
offer_alike plan is_plan x a b same = laws.offer_alike plan x a b is_plan same

-- a concentrator offers the sum of its children's offers, moved within its limits where it has some
pub offer_inner : (plan : PlanData) → IsPlan plan → (c : ℕ) (cut : Cut) → IsConcentrator (plan_lists plan) c →
    offer plan c cut ≡ within_limits (limits_at plan c) (children_sum plan c cut)
offer_inner plan is_plan c cut conc = laws.offer_inner plan c cut is_plan conc

-- the local step of a child of the auctioneer is the clearing step of the sum of all such children's offers
pub offer_root : (plan : PlanData) → IsPlan plan → (x : ℕ) (cut : Cut) → IsNode (plan_lists plan) x → parent (plan_lists plan) x ≡ 0 →
    local_step_at plan cut x ≡ clearing_step (children_sum plan 0 cut)
offer_root plan is_plan x cut here up = laws.local_root plan x cut is_plan here up

-- the step that a concentrator passes on is the local step of its record's sum
passed_is_local : (limits : Option Limits) (k : ℕ) (sum : List ℤ) → local_step_of_record limits k (sum_kept limits sum) ≡ local_step limits k sum
passed_is_local None k sum = refl
passed_is_local (Some limits) k sum = refl

-- the local step of a concentrator's child is the step passed down for the concentrator's, by the kept sum
pub offer_below : (plan : PlanData) → IsPlan plan → (x : ℕ) (cut : Cut) → IsNode (plan_lists plan) x →
    IsConcentrator (plan_lists plan) (parent (plan_lists plan) x) →
    local_step_at plan cut x
    ≡ local_step_of_record (limits_at plan (parent (plan_lists plan) x)) (local_step_at plan cut (parent (plan_lists plan) x))
    (sum_kept (limits_at plan (parent (plan_lists plan) x)) (children_sum plan (parent (plan_lists plan) x) cut))
offer_below plan is_plan x cut here conc =
    let above : ℕ = parent (plan_lists plan) x in
    laws.local_below plan x cut is_plan here conc ∙ sym (passed_is_local (limits_at plan above) (local_step_at plan cut above) (children_sum plan above cut))

-- a local step is one of the steps of the basis
pub offer_inside : (plan : PlanData) → IsPlan plan → (x : ℕ) (cut : Cut) → local_step_at plan cut x < plan.basis.steps
offer_inside plan is_plan x cut = laws.local_inside plan x cut is_plan

-- the sum of the offers of an inner node's children is within the limit of a sum at each step
pub offer_within : (plan : PlanData) → IsPlan plan → (y : ℕ) (cut : Cut) → IsInner (plan_lists plan) y →
    AllWithinLimit sum_limit (children_sum plan y cut)
offer_within plan is_plan y cut inner = laws.children_within plan y cut is_plan inner

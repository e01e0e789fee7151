-- The plain auction of a plan goes from node to node.
use Rattle.std.proofs.Common.{◌≡◌, ◌∙◌, sym, ap, ℕ, ◌<◌, ℤ, List, [], length, get_or, map, Option, Some, None, refl, arith, inl, inr}
use Rattle.std.proofs.lemmas.Bool.{cases_Bool}
use Rattle.std.proofs.lemmas.List.{ext_get_or, get_or-map, length-map}
use Rattle.pm_bid.specs.Bids.{zeros, sum_of}
use Rattle.pm_base.specs.Cuts.{Cut}
use Rattle.pm_base.specs.declared.limits.Limits.{Limits}
use Rattle.pm_bid.specs.Limited.{within_limits, local_step}
use Rattle.pm_bid.specs.Taken.{announced, settled_step}
use Rattle.pm_bid.proofs.Taken.{announced-unbound, settled_unbound}
use Rattle.pm_tree.specs.Entries.{children_of}
use Rattle.pm_market.specs.Lists.{parent, is_leaf, IsNode}
use Rattle.pm_market.specs.State.{no_changes}
use Rattle.pm_market.proofs.Tree.{leaf_of_parts}
use Rattle.pm_plan.specs.Kept.{IsPlan}
use Rattle.pm_plan.specs.Plans.{PlanData, node, limits_of}
use Rattle.pm_plan.specs.Market.{plan_lists}
use Rattle.pm_offer.specs.Offers.{offer, local_step_at}
use Rattle.pm_offer.proofs.Laws as laws
use Rattle.pm_plan.proofs.MarketLists.{child_node, limits_around}
use Rattle.pm_offer.proofs.Nothing.{demand_zero, sum_of_none}
use Rattle.pm_offer.proofs.Alike.{local_alike}
use Rattle.pm_net.specs.Pricing.{GoesByNodes}
use Rattle.pm_bid.proofs.Limited.{within_limits-zeros, clamp-unbound, step_within-unbound}
use Rattle.pm_net.specs.TreeAuction.{NeverBindAt}
use Rattle.pm_net_plan.specs.PlanPricing.{plan_pricing, LimitsNeverBind}

sums : (plan : PlanData) → IsPlan plan → (y : ℕ) (f g : ℕ → List ℤ) →
    ((x : ℕ) → IsNode (plan_lists plan) x → parent (plan_lists plan) x ≡ y → f x ≡ g x) →
    sum_of plan.basis.steps (map f (children_of plan.entries y)) ≡ sum_of plan.basis.steps (map g (children_of plan.entries y))
sums plan is_plan y f g h =
    ap (sum_of plan.basis.steps) (ext_get_or [] (map f (children_of plan.entries y)) (map g (children_of plan.entries y))
    (length-map (children_of plan.entries y) f ∙ sym (length-map (children_of plan.entries y) g)) (λ k lt.
    let lt' : k < length (children_of plan.entries y) = omega (arith, length-map (children_of plan.entries y) f) in
    let at = child_node plan y k lt' in
    get_or-map f (children_of plan.entries y) k 0 [] lt' ∙ h (get_or (children_of plan.entries y) k 0) at.0 at.1
    ∙ sym (get_or-map g (children_of plan.entries y) k 0 [] lt')))

nothing : (plan : PlanData) → IsPlan plan → (x : ℕ) → IsNode (plan_lists plan) x → offer plan x no_changes ≡ zeros plan.basis.steps
nothing plan is_plan x here =
    elim (cases_Bool (is_leaf (plan_lists plan) x)) [
      | inl leaf ↦ laws.offer_device plan x no_changes is_plan leaf ∙ demand_zero plan x
      | inr inner ↦ laws.offer_inner plan x no_changes is_plan (here.0, here.1, inner)
          ∙ ap (within_limits (limits_of (node plan x))) (sum_of_none plan is_plan x no_changes (λ d. refl))
          ∙ within_limits-zeros (limits_of (node plan x)) plan.basis.steps (λ l e. limits_around plan is_plan x l e)
    ]

-- limits that never bind move no sum, and no step
same_sum : (plan : PlanData) (c : ℕ) (cut : Cut) (l : Option Limits) → NeverBindAt (plan_pricing plan) c l →
    within_limits l ((plan_pricing plan).add c (λ x. offer plan x cut)) ≡ announced l ((plan_pricing plan).add c (λ x. offer plan x cut))
same_sum plan c cut None never = refl
same_sum plan c cut (Some l) never =
    let sum : List ℤ = (plan_pricing plan).add c (λ x. offer plan x cut) in
    clamp-unbound l sum (never.1 cut) ∙ sym (announced-unbound l sum never.0 (never.1 cut))

same_step : (plan : PlanData) (c : ℕ) (cut : Cut) (l : Option Limits) → NeverBindAt (plan_pricing plan) c l →
    local_step l (local_step_at plan cut c) ((plan_pricing plan).add c (λ x. offer plan x cut))
    ≡ settled_step l (local_step_at plan cut c) ((plan_pricing plan).add c (λ x. offer plan x cut))
same_step plan c cut None never = refl
same_step plan c cut (Some l) never =
    let sum : List ℤ = (plan_pricing plan).add c (λ x. offer plan x cut) in
    step_within-unbound l sum (local_step_at plan cut c) (never.1 cut) (never.2 cut)
    ∙ sym (settled_unbound l sum (local_step_at plan cut c) (never.1 cut) (never.2 cut))

-- the plain auction of a plan whose limits never bind goes from node to node
pub plan_goes_by_nodes : (plan : PlanData) → IsPlan plan → LimitsNeverBind plan → GoesByNodes (plan_lists plan) (plan_pricing plan)
plan_goes_by_nodes plan is_plan never = record {
  sums = sums plan is_plan;
  alike = λ x a b same. laws.offer_alike plan x a b is_plan same;
  limits_alike = λ c a b same. refl;
  steps_alike = λ x a b here same. local_alike plan is_plan a b (λ d leaf. same d (leaf_of_parts (plan_lists plan) 0 d leaf).0) x here;
  nothing = nothing plan is_plan;
  device = λ d cut leaf. laws.offer_device plan d cut is_plan leaf;
  relay = λ c cut conc. laws.offer_inner plan c cut is_plan conc ∙ same_sum plan c cut (limits_of (node plan c)) (never c conc);
  root = λ x cut here up. laws.local_root plan x cut is_plan here up;
  below = λ x cut here conc.
      laws.local_below plan x cut is_plan here conc
      ∙ same_step plan (parent (plan_lists plan) x) cut (limits_of (node plan (parent (plan_lists plan) x))) (never (parent (plan_lists plan) x) conc);
}

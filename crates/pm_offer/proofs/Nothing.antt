-- Over a cut of zeros nobody offers anything.
use Rattle.std.proofs.Common.{◌≡◌, ◌∙◌, sym, ap, ℕ, zero, suc, ◌+◌, ◌<◌, ◌≤◌, [], length, get_or, replicate, refl, arith, inl, inr}
use Rattle.std.proofs.lemmas.Bool.{cases_Bool}
use Rattle.std.proofs.lemmas.List.{ext_get_or, get_or-map, length-map, length-replicate, get_or-replicate}
use Rattle.pm_base.specs.Cuts.{Cut}
use Rattle.pm_bid.specs.Bids.{zeros, sum_of}
use Rattle.pm_bid.specs.Limited.{within_limits}
use Rattle.pm_bid.proofs.Sums.{sum_of-replicate_zeros}
use Rattle.pm_bid.proofs.Limited.{within_limits-zeros}
use Rattle.pm_tree.specs.Entries.{children_of}
use Rattle.pm_market.specs.Lists.{nodes, is_leaf, IsNode}
use Rattle.pm_plan.specs.Kept.{IsPlan}
use Rattle.pm_plan.specs.Plans.{PlanData, limits_of}
use Rattle.pm_plan.specs.Plans as plans
use Rattle.pm_plan.specs.Auction.{demand_in_cut}
use Rattle.pm_plan.specs.Market.{plan_lists}
use Rattle.pm_plan.proofs.MarketLists.{lawful, child_node, limits_around}
use Rattle.pm_offer.specs.Offers.{offer, children_sum, offers_of, device_demand}
use Rattle.pm_offer.proofs.Laws as laws

-- a device that made no change asks for nothing
pub demand_zero : (plan : PlanData) (d : ℕ) → device_demand plan d 0 ≡ zeros plan.basis.steps
unfolding demand_in_cut plans.is_member
demand_zero plan d = refl

-- where no child offers anything the sum is zeros
sum_zeros : (plan : PlanData) (y : ℕ) (cut : Cut) →
    ((k : ℕ) → k < length (children_of plan.entries y) → offer plan (get_or (children_of plan.entries y) k 0) cut ≡ zeros plan.basis.steps) →
    children_sum plan y cut ≡ zeros plan.basis.steps
sum_zeros plan y cut each =
    let n : ℕ = length (children_of plan.entries y) in
    let among = length-map (children_of plan.entries y) (λ z. offer plan z cut) in
    let all_zeros = replicate n (zeros plan.basis.steps) in
    ap (sum_of plan.basis.steps) (ext_get_or [] (offers_of plan y cut) all_zeros (among ∙ sym (length-replicate n (zeros plan.basis.steps))) (λ k lt.
    let lt' : k < n = omega (arith, among) in
    get_or-map (λ z. offer plan z cut) (children_of plan.entries y) k 0 [] lt' ∙ each k lt' ∙ sym (get_or-replicate n k (zeros plan.basis.steps) [] lt')))
    ∙ sum_of-replicate_zeros plan.basis.steps n

-- over a cut of zeros a node whose children offer nothing offers nothing
zero_from : (plan : PlanData) → IsPlan plan → (cut : Cut) → ((d : ℕ) → cut d ≡ 0) → (x : ℕ) → IsNode (plan_lists plan) x →
    ((k : ℕ) → k < length (children_of plan.entries x) → offer plan (get_or (children_of plan.entries x) k 0) cut ≡ zeros plan.basis.steps) →
    offer plan x cut ≡ zeros plan.basis.steps
zero_from plan is_plan cut none x node each =
    elim (cases_Bool (is_leaf (plan_lists plan) x)) [
      | inl leaf ↦ laws.offer_device plan x cut is_plan leaf ∙ ap (device_demand plan x) (none x) ∙ demand_zero plan x
      | inr inner ↦
          laws.offer_inner plan x cut is_plan (node.0, node.1, inner) ∙ ap (within_limits (limits_of (plans.node plan x))) (sum_zeros plan x cut each)
          ∙ within_limits-zeros (limits_of (plans.node plan x)) plan.basis.steps (λ l told. limits_around plan is_plan x l told)
    ]

-- nobody offers anything over a cut of zeros
pub zero_offer : (plan : PlanData) → IsPlan plan → (cut : Cut) → ((d : ℕ) → cut d ≡ 0) → (far x : ℕ) → nodes (plan_lists plan) ≤ x + far →
    IsNode (plan_lists plan) x → offer plan x cut ≡ zeros plan.basis.steps
zero_offer plan is_plan cut none zero x h node = zero_from plan is_plan cut none x node (λ k lt.
    let at = child_node plan x k lt in
    absurd (omega (arith, h, at.0.1, at.1, (lawful plan is_plan).earlier (get_or (children_of plan.entries x) k 0) at.0)))
zero_offer plan is_plan cut none (suc far) x h node = zero_from plan is_plan cut none x node (λ k lt.
    let at = child_node plan x k lt in
    zero_offer plan is_plan cut none far (get_or (children_of plan.entries x) k 0) (omega (
      arith,
      h,
      at.1,
      (lawful plan is_plan).earlier (get_or
          (children_of plan.entries x) k 0) at.0,
    )) at.0)

-- over a cut of zeros the children of a node offer nothing together
pub sum_of_none : (plan : PlanData) → IsPlan plan → (y : ℕ) (cut : Cut) → ((d : ℕ) → cut d ≡ 0) →
    children_sum plan y cut ≡ zeros plan.basis.steps
sum_of_none plan is_plan y cut none = sum_zeros plan y cut (λ k lt.
    let at = child_node plan y k lt in
    zero_offer plan is_plan cut none (nodes (plan_lists plan)) (get_or (children_of plan.entries y) k 0) (omega arith) at.0)

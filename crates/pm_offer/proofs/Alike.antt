-- Sums, steps and lists over cuts that are the same on the leaves.
use Rattle.std.proofs.Common.{◌≡◌, ◌∙◌, sym, ap, subst, refl, ℕ, ◌<◌, ◌⊎◌, Bool, true, false, List, [], ◌∷◌}
use Rattle.std.proofs.Common.{length, map, get_or, arith, inl, inr}
use Rattle.std.specs.Prelude.{filter}
use Rattle.std.proofs.lemmas.Bool.{cases_Bool}
use Rattle.std.proofs.lemmas.List.{ext_get_or, get_or-map, length-map}
use Rattle.pm_base.specs.Cuts.{Cut}
use Rattle.pm_bid.specs.Bids.{sum_of}
use Rattle.pm_bid.specs.Clearing.{clearing_step}
use Rattle.pm_bid.specs.Limited.{local_step}
use Rattle.pm_tree.specs.Entries.{children_of}
use Rattle.pm_market.specs.Lists.{IsNode, IsLeafOf}
use Rattle.pm_market.specs.State.{SameOn}
use Rattle.pm_market.proofs.Tree.{leaf_of_auctioneer, leaf_of_parent, leaf_of_parts}
use Rattle.pm_plan.specs.Kept.{IsPlan}
use Rattle.pm_plan.specs.Plans.{PlanData, node, limits_of, is_limited, group}
use Rattle.pm_plan.specs.Auction.{total, plain_step, local_step_in, local_step_of_group, sum_in}
use Rattle.pm_plan.specs.States.{state}
use Rattle.pm_plan.specs.Market.{plan_lists}
use Rattle.pm_offer.specs.Offers.{offer, offers_of, children_sum, local_step_at}
use Rattle.pm_offer.proofs.Laws as laws
use Rattle.pm_offer.proofs.Offers.{limited_sum}
use Rattle.pm_offer.proofs.GroupNodes.{group_kind, nodes_are}
use Rattle.pm_plan.proofs.MarketLists.{lawful, child_node}

-- the values of those numbers of a list that pass, by two tests that agree and by values that agree on those
pub listed_alike : {X : Type 0} (f g : ℕ → X) (p q : ℕ → Bool) → ((n : ℕ) → p n ≡ q n) → ((n : ℕ) → p n ≡ true → f n ≡ g n) →
    (ns : List ℕ) →
    map f (filter p ns) ≡ map g (filter q ns)
listed_alike f g p q tests values [] = refl
listed_alike f g p q tests values (n ∷ ns) =
    let rest = listed_alike f g p q tests values ns in
    elim (cases_Bool (p n)) [
      | inl has ↦ let also : q n ≡ true = sym (tests n) ∙ has in let here = values n has in rw has (rw also (cc (here, rest)))
      | inr lacks ↦ let also : q n ≡ false = sym (tests n) ∙ lacks in rw lacks (rw also rest)
    ]

-- the sum of offers sees the leaves alone
pub sum_alike : (plan : PlanData) → IsPlan plan → (y : ℕ) (a b : Cut) → SameOn (plan_lists plan) y a b →
    children_sum plan y a ≡ children_sum plan y b
sum_alike plan is_plan y a b same =
    ap (sum_of plan.basis.steps) (ext_get_or [] (offers_of plan y a) (offers_of plan y b)
    (length-map (children_of plan.entries y) (λ z. offer plan z a) ∙ sym (length-map (children_of plan.entries y) (λ z. offer plan z b))) (λ k lt.
    let lt' : k < length (children_of plan.entries y) = omega (arith, length-map (children_of plan.entries y) (λ z. offer plan z a)) in
    let at = child_node plan y k lt' in
    let z : ℕ = get_or (children_of plan.entries y) k 0 in
    get_or-map (λ z. offer plan z a) (children_of plan.entries y) k 0 [] lt'
    ∙ laws.offer_alike plan z a b is_plan (λ d leaf. same d (subst (λ (i : ℕ). IsLeafOf (plan_lists plan) i d) at.1 (
    leaf_of_parent (plan_lists plan) (lawful plan is_plan) z d leaf)))
    ∙ sym (get_or-map (λ z. offer plan z b) (children_of plan.entries y) k 0 [] lt')))

module _ (plan : PlanData) (is_plan : IsPlan plan) (a b : Cut) (same : SameOn (plan_lists plan) 0 a b) where
  -- two cuts that are the same on all leaves have the same total
  pub total_alike : total plan (state plan) a ≡ total plan (state plan) b
  total_alike = laws.offer_total plan a is_plan ∙ sum_alike plan is_plan 0 a b same ∙ sym (laws.offer_total plan b is_plan)

  -- two cuts that are the same on all leaves have the same step of the plain auction
  pub plain_alike : plain_step plan (state plan) a ≡ plain_step plan (state plan) b
  unfolding plain_step
  plain_alike = ap clearing_step total_alike

  same_below : (x : ℕ) → SameOn (plan_lists plan) x a b
  same_below x d below = same d (leaf_of_auctioneer (plan_lists plan) (lawful plan is_plan) d (leaf_of_parts (plan_lists plan) x d below).0)

  -- two cuts the same on all leaves give group 0, and each limited concentrator's group, the same step
  pub group_step_alike : (g : ℕ) → (g ≡ 0) ⊎ (is_limited plan g ≡ true) →
      local_step_of_group plan (state plan) a (plain_step plan (state plan) a) g ≡ local_step_of_group plan (state plan) b (plain_step plan (state plan) b) g
  unfolding local_step_of_group
  group_step_alike g (inl none) =
      ap (λ (i : ℕ). local_step (limits_of (node plan i)) (plain_step plan (state plan) a) (sum_in plan (state plan) a i)) none
      ∙ plain_alike
      ∙ sym (ap (λ (i : ℕ). local_step (limits_of (node plan i)) (plain_step plan (state plan) b) (sum_in plan (state plan) b i)) none)
  group_step_alike g (inr limited) =
      ap (λ k. local_step (limits_of (node plan g)) k (sum_in plan (state plan) a g)) plain_alike
      ∙ ap (local_step (limits_of (node plan g)) (plain_step plan (state plan) b))
      (limited_sum plan is_plan g a limited ∙ sum_alike plan is_plan g a b (same_below g) ∙ sym (limited_sum plan is_plan g b limited))

  -- two cuts that are the same on all leaves give each node the same local step
  pub local_alike : (x : ℕ) → IsNode (plan_lists plan) x → local_step_at plan a x ≡ local_step_at plan b x
  unfolding local_step_in
  local_alike x here = group_step_alike (group plan x) (group_kind plan is_plan x (omega (arith, here.1, nodes_are plan is_plan)))

-- A plan adds in the order of the places, so its plain auction is found by networks that do.
use Rattle.std.proofs.Common.{◌≡◌, ◌∙◌, sym, ap, ℕ, zero, suc, ◌+◌, ◌-◌, ◌<◌, ◌≤◌, ℤ, cond, eqb, inl, inr, List, []}
use Rattle.std.proofs.Common.{◌∷◌, ◌++◌, length, get_or, map, replicate, Option, refl, arith}
use Rattle.std.specs.List.{range_with_len}
use Rattle.std.proofs.lemmas.Bool.{cases_lt, cases_Bool, cond-true, cond-false, eqb-true, eq-eqb, ne_eqb}
use Rattle.std.proofs.lemmas.List.{ext_get_or, get_or-map, length-map, get_or_append_left, get_or-append_right, get_or-replicate, append-nil}
use Rattle.std.proofs.lemmas.List.{length-append, length-replicate}
use Rattle.std.proofs.lemmas.List.FromFn.{get_or-map-range_with_len, length-map-range_with_len}
use Rattle.pm_base.specs.Limits.{most_nodes}
use Rattle.pm_bid.specs.Bids.{zeros, sum_of}
use Rattle.pm_bid.proofs.Sums.{sum_of-append_zeros}
use Rattle.pm_tree.specs.Shape.{parent_at, children_among, children_at}
use Rattle.pm_tree.specs.Entries.{parents_of}
use Rattle.pm_tree.proofs.Named.{length-parents_of}
use Rattle.pm_tree.proofs.Ranges.{children_among-more}
use Rattle.pm_bid.specs.Clearing.{clearing_step}
use Rattle.pm_bid.specs.Taken.{announced, settled_step}
use Rattle.pm_base.specs.Cuts.{Cut}
use Rattle.pm_base.specs.declared.limits.Limits.{Limits}
use Rattle.pm_market.specs.Lists.{Lists, nodes, parent}
use Rattle.pm_offer.specs.Offers.{offer, local_step_at}
use Rattle.pm_net.specs.Pricing.{GoesByNodes}
use Rattle.pm_net.specs.TreeAuction.{AreAsGood, with_limits}
use Rattle.pm_net.proofs.Unbound.{goes_unbound}
use Rattle.pm_net_plan.proofs.PlanPrices.{plan_goes_by_nodes}
use Rattle.pm_plan.specs.Kept.{IsPlan}
use Rattle.pm_plan.specs.Plans.{PlanData}
use Rattle.pm_plan.specs.Market.{plan_lists}
use Rattle.pm_net.proofs.Messages.{past}
use Rattle.pm_net_plan.specs.PlanPricing.{plan_pricing, LimitsNeverBind}
use Rattle.pm_net_plan.specs.Places.{IsNumbering, children_to, child_in, places_in, HasFewChildren, demand_in, demands_of, added_by_places}
use Rattle.pm_net_plan.proofs.Children.{small, is_numbering, at_place, one_more, no_more}

module _ (plan : PlanData) (is_plan : IsPlan plan) where
  abbrev lists : Lists
  lists = plan_lists plan

  few : nodes lists ≤ most_nodes
  few = omega (arith, length-parents_of plan.entries, is_plan.nodes.one_each, is_plan.nodes.few)

  -- a plan has few children a node
  pub has_places : HasFewChildren lists
  has_places = small lists few

  -- the places of its tree are a numbering
  pub numbering : IsNumbering lists (places_in lists)
  numbering = is_numbering lists has_places

  -- the children of an entry are those of the node
  children_are : (y n : ℕ) → children_among (parents_of plan.entries) n y ≡ children_to lists y n
  unfolding children_to parent
  children_are y zero = refl
  children_are y (suc n) =
      let more : suc n ≡ n + 1 = omega arith in
      ap (λ (i : ℕ). children_among (parents_of plan.entries) i y) more ∙ children_among-more (parents_of plan.entries) n y
      ∙ ap (λ (i : ℕ). children_among (parents_of plan.entries) n y ++ cond (eqb (parent_at (parents_of plan.entries) i) y) (i ∷ []) []) (sym more)
      ∙ ap (λ (l : List ℕ). l ++ cond (eqb (parent_at (parents_of plan.entries) (suc n)) y) (suc n ∷ []) []) (children_are y n)
      ∙ elim (cases_Bool (eqb (parent lists (suc n)) y)) [
        | inl e ↦ ap (λ (l : List ℕ). children_to lists y n ++ l) (cond-true (eqb (parent lists (suc n)) y) (suc n ∷ []) [] e)
            ∙ sym (one_more lists y n (eqb-true (parent lists (suc n)) y e))
        | inr e ↦ ap (λ (l : List ℕ). children_to lists y n ++ l) (cond-false (eqb (parent lists (suc n)) y) (suc n ∷ []) [] e)
            ∙ append-nil (children_to lists y n) ∙ sym (no_more lists y n e)
      ]

  module _ (y : ℕ) (f : ℕ → List ℤ) where
    abbrev steps : ℕ
    steps = plan.basis.steps

    abbrev kids : List ℕ
    kids = children_to lists y (nodes lists)

    abbrev left : ℕ
    left = most_nodes - length kids

    -- what stands in each place
    in_place : (k : ℕ) → k < length kids → demand_in steps (places_in lists) y f k ≡ f (get_or kids k 0)
    unfolding child_in
    in_place k lt = cond-false (eqb (get_or kids k 0) 0) (zeros steps) (f (get_or kids k 0))
        (ne_eqb (get_or kids k 0) 0 (λ e. omega (arith, e, (at_place lists y (nodes lists) k lt).0)))

    no_place : (k : ℕ) → length kids ≤ k → demand_in steps (places_in lists) y f k ≡ zeros steps
    unfolding child_in
    no_place k ge = cond-true (eqb (get_or kids k 0) 0) (zeros steps) (f (get_or kids k 0))
        (eq-eqb (get_or kids k 0) 0 (past kids k 0 ge))

    demands_are : demands_of steps (places_in lists) y f ≡ map f kids ++ replicate left (zeros steps)
    unfolding demands_of
    demands_are =
        let g : ℕ → List ℤ = demand_in steps (places_in lists) y f in
        let len = length-map-range_with_len g 0 most_nodes in
        let kids_len = length-map kids f in
        let has = has_places y in
        ext_get_or [] (map g (range_with_len 0 most_nodes)) (map f kids ++ replicate left (zeros steps))
        (len ∙ sym (length-append (map f kids) (replicate left (zeros steps)) ∙ ap (λ (n : ℕ). n + length (replicate left (zeros steps))) kids_len
        ∙ ap (λ (n : ℕ). length kids + n) (length-replicate left (zeros steps)) ∙ whole has)) (λ k lt.
        let inside : k < most_nodes = omega (arith, lt, len) in
        get_or-map-range_with_len g 0 most_nodes k k [] inside (omega arith)
        ∙ elim (cases_lt k (length kids)) [
          | inl below ↦ in_place k below ∙ sym (
              get_or_append_left (map f kids) (replicate left (zeros steps)) [] k (omega (arith, below, kids_len)) ∙ get_or-map f kids k 0 [] below)
          | inr above ↦ no_place k above ∙ sym (
              get_or-append_right (map f kids) (replicate left (zeros steps)) (length kids) k [] kids_len above
              ∙ get_or-replicate left (k - length kids) (zeros steps) [] (omega (arith, above, inside)))
        ])
      where
        whole : length kids ≤ most_nodes → length kids + left ≡ most_nodes
        whole le = omega (arith, le)

  -- a plan adds up as the places do
  pub adds : (y : ℕ) (f : ℕ → List ℤ) → (plan_pricing plan).add y f ≡ (added_by_places (plan_pricing plan) (places_in lists)).add y f
  unfolding children_at
  adds y f =
      ap (λ (l : List ℕ). sum_of plan.basis.steps (map f l)) (children_are y (nodes lists))
      ∙ sym (ap (sum_of plan.basis.steps) (demands_are y f) ∙ sum_of-append_zeros plan.basis.steps (left y f) (map f (kids y f)))

  -- with limits that are as good as the plan's
  module _ (never : LimitsNeverBind plan) (limits : ℕ → Cut → Option Limits) (good : AreAsGood lists (plan_pricing plan) limits) where
    abbrev by : GoesByNodes lists (with_limits (plan_pricing plan) limits)
    by = goes_unbound lists (plan_pricing plan) (plan_goes_by_nodes plan is_plan never) limits good

    -- a sum by places is the plan's
    at_places : (y : ℕ) (f : ℕ → List ℤ) → (added_by_places (plan_pricing plan) (places_in lists)).add y f ≡ (plan_pricing plan).add y f
    at_places y f = sym (adds y f)

    -- with limits as good as the plan's, and sums by places, its plain auction goes by nodes
    pub goes : GoesByNodes lists (with_limits (added_by_places (plan_pricing plan) (places_in lists)) limits)
    goes = record {
      sums = λ y f g same. at_places y f ∙ by.sums y f g same ∙ sym (at_places y g);
      alike = by.alike;
      steps_alike = by.steps_alike;
      limits_alike = by.limits_alike;
      nothing = by.nothing;
      device = by.device;
      relay = λ c cut conc. by.relay c cut conc ∙ ap (announced (limits c cut)) (sym (at_places c (λ x. offer plan x cut)));
      root = λ x cut node up. by.root x cut node up ∙ ap clearing_step (sym (at_places 0 (λ z. offer plan z cut)));
      below = λ x cut node conc.
          by.below x cut node conc ∙ ap (settled_step (limits (parent lists x) cut) (local_step_at plan cut (parent lists x)))
          (sym (at_places (parent lists x) (λ z. offer plan z cut)));
    }

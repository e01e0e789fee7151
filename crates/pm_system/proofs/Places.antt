-- A sum by the places of the children is the sum of the children.
use Rattle.std.proofs.Common.{◌≡◌, ◌∙◌, sym, ap, ℕ, zero, suc, ◌+◌, ◌-◌, ◌<◌, ◌≤◌, ℤ, pos, ◌+ℤ◌, cond, eqb}
use Rattle.std.proofs.Common.{List, [], ◌∷◌, length, get_or}
use Rattle.std.proofs.Common.{inl, inr, refl, arith}
use Rattle.std.proofs.lemmas.Bool.{cases_eq, cond-true, cond-false, eq-eqb, ne_eqb}
use Rattle.std.proofs.lemmas.Int.{ints}
use Rattle.std.proofs.lemmas.List.FromFn.{get_or-map-range_with_len, length-map-range_with_len}
use Rattle.pm_base.specs.Limits.{most_nodes}
use Rattle.pm_bid.specs.Bids.{HaveSteps, demand_at, sum_of, zeros}
use Rattle.pm_bid.proofs.Sums.{length-zeros, zeros-at, length-sum_of, total_at, sum_of-at}
use Rattle.pm_market.specs.Lists.{Lists, nodes, parent, IsNode}
use Rattle.pm_market.specs.Offers.{int_sum_to, sum_children}
use Rattle.pm_laws.proofs.Offers.{int_sum_same, int_sum_none, int_sum_swap, int_sum_only}
use Rattle.pm_net.specs.Pricing.{Pricing}
use Rattle.pm_net.specs.Flow.{AddsAtEachStep}
use Rattle.pm_net_plan.specs.Places.{Numbering, IsNumbering, demand_in, demands_of}
use Rattle.pm_system.specs.Given.{IsTreeMarket}

int_sum_first : (n : ℕ) (f : ℕ → ℤ) → int_sum_to (suc n) f ≡ f 1 +ℤ int_sum_to n (λ i. f (suc i))
unfolding int_sum_to
int_sum_first zero f = refl
int_sum_first (suc n) f = omega (arith, ints, int_sum_first n f)

-- the sum at a step, by places from 1 on
total_places : (bids : List (List ℤ)) (k : ℕ) → total_at bids k ≡ int_sum_to (length bids) (λ i. demand_at (get_or bids (i - 1) []) k)
unfolding int_sum_to
total_places [] k = refl
total_places (bid ∷ bids) k =
    let rest : int_sum_to (length bids) (λ i. demand_at (get_or bids (i - 1) []) k)
    ≡ int_sum_to (length bids) (λ i. demand_at (get_or (bid ∷ bids) (suc i - 1) []) k) =
    int_sum_same (length bids) (λ i. demand_at (get_or bids (i - 1) []) k) (λ i. demand_at (get_or (bid ∷ bids) (suc i - 1) []) k) (λ i one le.
    let e : suc i - 1 ≡ suc (i - 1) = omega arith in
    sym (ap (λ (n : ℕ). demand_at (get_or (bid ∷ bids) n []) k) e)) in
    ap (λ (z : ℤ). demand_at bid k +ℤ z) (total_places bids k ∙ rest)
    ∙ sym (int_sum_first (length bids) (λ i. demand_at (get_or (bid ∷ bids) (i - 1) []) k))

module _ (lists : Lists) (numbering : Numbering) (is : IsNumbering lists numbering) (y : ℕ) (v : ℕ → ℤ) where
  abbrev kid : ℕ → ℕ
  kid i = numbering.child y (i - 1)

  abbrev at : ℕ → ℕ → ℤ
  at i x = cond (eqb (numbering.child y (i - 1)) x) (v x) (pos 0)

  abbrev placed : ℕ → ℤ
  placed i = cond (eqb (numbering.child y (i - 1)) 0) (pos 0) (v (numbering.child y (i - 1)))

  by_place : (i : ℕ) → 1 ≤ i → i ≤ most_nodes → placed i ≡ int_sum_to (nodes lists) (λ x. at i x)
  by_place i one le = elim (cases_eq (kid i) 0) [
    | inl e ↦
        cond-true (eqb (kid i) 0) (pos 0) (v (kid i)) (eq-eqb (kid i) 0 e)
        ∙ sym (int_sum_same (nodes lists) (λ x. at i x) (λ x. pos 0) (λ x x_one x_le.
        cond-false (eqb (kid i) x) (v x) (pos 0) (ne_eqb (kid i) x (λ same. omega (arith, e, same, x_one)))) ∙ int_sum_none (nodes lists))
    | inr ne ↦
        let child = is.child_is y (i - 1) (omega (arith, one, le)) ne in
        cond-false (eqb (kid i) 0) (pos 0) (v (kid i)) (ne_eqb (kid i) 0 ne)
        ∙ sym (int_sum_only (nodes lists) (λ x. at i x) (kid i) child.0.0 child.0.1 (λ x x_ne x_one x_le.
        cond-false (eqb (kid i) x) (v x) (pos 0) (ne_eqb (kid i) x (λ same. x_ne (sym same))))
        ∙ cond-true (eqb (kid i) (kid i)) (v (kid i)) (pos 0) (eq-eqb (kid i) (kid i) refl))
  ]

  by_node : (x : ℕ) → IsNode lists x → int_sum_to most_nodes (λ i. at i x) ≡ cond (eqb (parent lists x) y) (v x) (pos 0)
  by_node x node =
      let child : (i : ℕ) → 1 ≤ i → i ≤ most_nodes → kid i ≡ x → (parent lists x ≡ y) × (numbering.place x ≡ i - 1) = λ i one le same.
      let c = is.child_is y (i - 1) (omega (arith, one, le)) (λ none. omega (arith, none, same, node.0)) in
      (ap (parent lists) (sym same) ∙ c.1, ap numbering.place (sym same) ∙ c.2) in
      elim (cases_eq (parent lists x) y) [
        | inl up ↦
            let k : ℕ = numbering.place x in
            let before : (k + 1) - 1 ≡ k = omega arith in
            let there : kid (k + 1) ≡ x =
            ap (numbering.child y) before ∙ ap (λ (z : ℕ). numbering.child z k) (sym up) ∙ is.there x node in
            int_sum_only most_nodes (λ i. at i x) (k + 1) (omega arith) (omega (arith, is.inside x node)) (λ i i_ne i_one i_le.
            cond-false (eqb (kid i) x) (v x) (pos 0) (ne_eqb (kid i) x (λ same. i_ne (omega (arith, (child i i_one i_le same).1, i_one)))))
            ∙ cond-true (eqb (kid (k + 1)) x) (v x) (pos 0) (eq-eqb (kid (k + 1)) x there)
            ∙ sym (cond-true (eqb (parent lists x) y) (v x) (pos 0) (eq-eqb (parent lists x) y up))
        | inr ne ↦
            int_sum_same most_nodes (λ i. at i x) (λ i. pos 0) (λ i i_one i_le.
            cond-false (eqb (kid i) x) (v x) (pos 0) (ne_eqb (kid i) x (λ same. ne (child i i_one i_le same).0)))
            ∙ int_sum_none most_nodes ∙ sym (cond-false (eqb (parent lists x) y) (v x) (pos 0) (ne_eqb (parent lists x) y ne))
      ]

  placed_sum : int_sum_to most_nodes placed ≡ sum_children lists y v
  unfolding sum_children
  placed_sum =
      int_sum_same most_nodes placed (λ i. int_sum_to (nodes lists) (λ x. at i x)) by_place
      ∙ int_sum_swap most_nodes (nodes lists) at
      ∙ int_sum_same (nodes lists) (λ x. int_sum_to most_nodes (λ i. at i x)) (λ x. cond (eqb (parent lists x) y) (v x) (pos 0))
      (λ x one le. by_node x (one, le))

module _ (lists : Lists) (numbering : Numbering) (is : IsNumbering lists numbering) (steps y : ℕ) (f : ℕ → List ℤ)
    (each : (x : ℕ) → IsNode lists x → parent lists x ≡ y → length (f x) ≡ steps) where
  in_place : (k : ℕ) → k < most_nodes → length (demand_in steps numbering y f k) ≡ steps
  in_place k inside = elim (cases_eq (numbering.child y k) 0) [
    | inl none ↦ ap length (cond-true (eqb (numbering.child y k) 0) (zeros steps) (f (numbering.child y k)) (eq-eqb (numbering.child y k) 0 none))
        ∙ length-zeros steps
    | inr ne ↦
        let at = is.child_is y k inside ne in
        ap length (cond-false (eqb (numbering.child y k) 0) (zeros steps) (f (numbering.child y k)) (ne_eqb (numbering.child y k) 0 ne))
        ∙ each (numbering.child y k) at.0 at.1
  ]

  have : HaveSteps steps (demands_of steps numbering y f)
  unfolding demands_of
  have = λ k o lt.
      let inside : k < most_nodes = omega (arith, lt, length-map-range_with_len (demand_in steps numbering y f) 0 most_nodes) in
      ap length (get_or-map-range_with_len (demand_in steps numbering y f) 0 most_nodes k k o inside (omega arith)) ∙ in_place k inside

  -- a sum by places has as many steps
  pub places_long : length (sum_of steps (demands_of steps numbering y f)) ≡ steps
  places_long = length-sum_of steps (demands_of steps numbering y f) have

  length-demands : length (demands_of steps numbering y f) ≡ most_nodes
  unfolding demands_of
  length-demands = length-map-range_with_len (demand_in steps numbering y f) 0 most_nodes

  demand_placed : (k i : ℕ) → 1 ≤ i → i ≤ most_nodes → demand_at (get_or (demands_of steps numbering y f) (i - 1) []) k
      ≡ cond (eqb (numbering.child y (i - 1)) 0) (pos 0) (demand_at (f (numbering.child y (i - 1))) k)
  unfolding demands_of
  demand_placed k i one le =
      let z : ℕ = numbering.child y (i - 1) in
      ap (λ (b : List ℤ). demand_at b k)
      (get_or-map-range_with_len (demand_in steps numbering y f) 0 most_nodes (i - 1) (i - 1) [] (omega (arith, one, le)) (omega arith))
      ∙ elim (cases_eq (numbering.child y (i - 1)) 0) [
        | inl none ↦ ap (λ (b : List ℤ). demand_at b k) (cond-true (eqb z 0) (zeros steps) (f z) (eq-eqb z 0 none)) ∙ zeros-at steps k
            ∙ sym (cond-true (eqb z 0) (pos 0) (demand_at (f z) k) (eq-eqb z 0 none))
        | inr ne ↦ ap (λ (b : List ℤ). demand_at b k) (cond-false (eqb z 0) (zeros steps) (f z) (ne_eqb z 0 ne))
            ∙ sym (cond-false (eqb z 0) (pos 0) (demand_at (f z) k) (ne_eqb z 0 ne))
      ]

  -- and at each step the sum of what the children have
  pub places_add : (k : ℕ) → k < steps → demand_at (sum_of steps (demands_of steps numbering y f)) k ≡ sum_children lists y (λ x. demand_at (f x) k)
  places_add k inside =
      sum_of-at steps (demands_of steps numbering y f) k have inside ∙ total_places (demands_of steps numbering y f) k
      ∙ ap (λ (n : ℕ). int_sum_to n (λ i. demand_at (get_or (demands_of steps numbering y f) (i - 1) []) k)) length-demands
      ∙ int_sum_same most_nodes (λ i. demand_at (get_or (demands_of steps numbering y f) (i - 1) []) k)
      (placed lists numbering is y (λ x. demand_at (f x) k)) (λ i one le. demand_placed k i one le)
      ∙ placed_sum lists numbering is y (λ x. demand_at (f x) k)

-- a market adds up
pub market_adds : (lists : Lists) (p : Pricing) (numbering : Numbering) → IsTreeMarket lists p numbering → AddsAtEachStep lists p
market_adds lists p numbering market = record {
  some = omega (arith, market.steps.least);
  one_each = λ d n leaf. (market.demands d n leaf).one_each;
  long = λ y f each. ap (λ (b : List ℤ). length b) (market.by_places y f) ∙ places_long lists numbering market.places p.steps y f each;
  adds = λ y k f each inside. ap (λ (b : List ℤ). demand_at b k) (market.by_places y f)
      ∙ places_add lists numbering market.places p.steps y f each k inside;
}

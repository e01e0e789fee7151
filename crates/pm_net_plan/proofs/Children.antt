-- The children of a node in their order.
use Rattle.std.proofs.Common.{◌≡◌, ◌∙◌, sym, ap, subst, ℕ, zero, suc, ◌+◌, ◌-◌, ◌<◌, ◌≤◌, false, eqb, inl, inr}
use Rattle.std.proofs.Common.{List, [], ◌∷◌, ◌++◌, length, get_or, refl, arith}
use Rattle.std.proofs.lemmas.Bool.{cases_lt, cases_Bool, cond-true, cond-false, eqb-true, eq-eqb}
use Rattle.std.proofs.lemmas.List.{get_or_append_left, get_or_push, length_push}
use Rattle.pm_base.specs.Limits.{most_nodes}
use Rattle.pm_market.specs.Lists.{Lists, nodes, parent, IsNode}
use Rattle.pm_net.proofs.Messages.{past}
use Rattle.pm_net_plan.specs.Places.{IsNumbering, children_to, place_in, child_in, places_in, HasFewChildren}

module _ (lists : Lists) (y : ℕ) where
  abbrev upto : ℕ → List ℕ
  upto n = children_to lists y n

  -- one node more, which is a child
  pub one_more : (n : ℕ) → parent lists (suc n) ≡ y → upto (suc n) ≡ upto n ++ suc n ∷ []
  unfolding children_to
  one_more n up = cond-true (eqb (parent lists (suc n)) y) (upto n ++ suc n ∷ []) (upto n) (eq-eqb (parent lists (suc n)) y up)

  -- or none
  pub no_more : (n : ℕ) → eqb (parent lists (suc n)) y ≡ false → upto (suc n) ≡ upto n
  unfolding children_to
  no_more n e = cond-false (eqb (parent lists (suc n)) y) (upto n ++ suc n ∷ []) (upto n) e

  -- no more children than nodes
  pub few : (n : ℕ) → length (upto n) ≤ n
  unfolding children_to
  few zero = omega arith
  few (suc n) = elim (cases_Bool (eqb (parent lists (suc n)) y)) [
    | inl e ↦ omega (arith, few n, ap length (one_more n (eqb-true (parent lists (suc n)) y e)), length_push (upto n) (suc n))
    | inr e ↦ omega (arith, few n, ap length (no_more n e))
  ]

  -- a child stays in its place
  pub longer : (n m : ℕ) → length (upto n) ≤ length (upto (m + n))
  longer n zero = omega (arith, ap (λ (i : ℕ). length (upto i)) (zero_more n))
    where
      zero_more : (n : ℕ) → zero + n ≡ n
      zero_more n = omega arith
  longer n (suc m) =
      let at : suc m + n ≡ suc (m + n) = omega arith in
      let here = ap (λ (i : ℕ). length (upto i)) at in
      elim (cases_Bool (eqb (parent lists (suc (m + n))) y)) [
        | inl e ↦ omega (
          arith,
          longer n m,
          here,
          ap length (one_more (m + n) (eqb-true (parent lists (suc (m + n))) y e)),
          length_push (upto (m + n)) (suc (m + n)),
        )
        | inr e ↦ omega (arith, longer n m, here, ap length (no_more (m + n) e))
      ]

  -- a child stays in its place as nodes are added
  pub stays : (n k m : ℕ) → k < length (upto n) → get_or (upto (m + n)) k 0 ≡ get_or (upto n) k 0
  stays n k zero lt = ap (λ (i : ℕ). get_or (upto i) k 0) (zero_more n)
    where
      zero_more : (n : ℕ) → zero + n ≡ n
      zero_more n = omega arith
  stays n k (suc m) lt =
      let at : suc m + n ≡ suc (m + n) = omega arith in
      ap (λ (i : ℕ). get_or (upto i) k 0) at
      ∙ elim (cases_Bool (eqb (parent lists (suc (m + n))) y)) [
        | inl e ↦ ap (λ (l : List ℕ). get_or l k 0) (one_more (m + n) (eqb-true (parent lists (suc (m + n))) y e))
            ∙ get_or_append_left (upto (m + n)) (suc (m + n) ∷ []) 0 k (omega (arith, lt, longer n m)) ∙ stays n k m lt
        | inr e ↦ ap (λ (l : List ℕ). get_or l k 0) (no_more (m + n) e) ∙ stays n k m lt
      ]

  -- what stands in a place is a child, and as many children come before it
  pub at_place : (n k : ℕ) → k < length (upto n) →
      (1 ≤ get_or (upto n) k 0) × (get_or (upto n) k 0 ≤ n) × (parent lists (get_or (upto n) k 0) ≡ y) × (length (upto (get_or
      (upto n) k 0 - 1)) ≡ k)
  unfolding children_to
  at_place zero k lt = absurd (omega arith)
  at_place (suc n) k lt =
      let P : ℕ → Type 0 = λ c. (1 ≤ c) × (c ≤ suc n) × (parent lists c ≡ y) × (length (upto (c - 1)) ≡ k) in
      let old : k < length (upto n) → P (get_or (upto n) k 0) = λ below. (let w = at_place n k below in (w.0, omega (arith, w.1), w.2, w.3)) in
      elim (cases_Bool (eqb (parent lists (suc n)) y)) [
        | inl e ↦
            let up : parent lists (suc n) ≡ y = eqb-true (parent lists (suc n)) y e in
            let new : upto (suc n) ≡ upto n ++ suc n ∷ [] = one_more n up in
            subst (λ (l : List ℕ). P (get_or l k 0)) (sym new) (elim (cases_lt k (length (upto n))) [
              | inl below ↦ subst P (sym (get_or_append_left (upto n) (suc n ∷ []) 0 k below)) (old below)
              | inr above ↦
                  let at : length (upto n) ≡ k = omega (arith, above, lt, ap length new, length_push (upto n) (suc n)) in
                  let before : suc n - 1 ≡ n = omega arith in
                  subst P (sym (get_or_push (upto n) (suc n) 0 k at)) (omega arith, omega arith, up, ap (λ (i : ℕ). length (upto i)) before ∙ at)
            ])
        | inr e ↦
            let same : upto (suc n) ≡ upto n = no_more n e in
            subst (λ (l : List ℕ). P (get_or l k 0)) (sym same) (old (omega (arith, lt, ap length same)))
      ]

module _ (lists : Lists) (has : HasFewChildren lists) where
  -- a node stands in its place
  stands : (x : ℕ) → IsNode lists x →
      (place_in lists x < length (children_to lists (parent lists x) (nodes lists))) × (child_in lists (parent lists x) (place_in lists x) ≡ x)
  unfolding place_in child_in
  stands x node =
      let y : ℕ = parent lists x in
      let m : ℕ = x - 1 in
      let is : x ≡ suc m = omega (arith, node.0) in
      let rest : nodes lists ≡ (nodes lists - x) + suc m = omega (arith, node.1, is) in
      let new = one_more lists y m (ap (parent lists) (sym is)) in
      let inside : length (children_to lists y m) < length (children_to lists y (suc m)) =
      omega (arith, ap length new, length_push (children_to lists y m) (suc m)) in (
        omega (arith, inside, longer lists y (suc m) (nodes lists - x), ap (λ (n : ℕ). length (children_to lists y n)) rest),
        ap (λ (n : ℕ). get_or (children_to lists y n) (length (children_to lists y m)) 0) rest
            ∙ stays lists y (suc m) (length (children_to lists y m)) (nodes lists - x) inside
            ∙ ap (λ (l : List ℕ). get_or l (length (children_to lists y m)) 0) new
            ∙ get_or_push (children_to lists y m) (suc m) 0 (length (children_to lists y m)) refl ∙ sym is,
      )

  there : (y k : ℕ) → (child_in lists y k ≡ 0 → ⊥) → k < length (children_to lists y (nodes lists))
  unfolding child_in
  there y k some = elim (cases_lt k (length (children_to lists y (nodes lists)))) [
    | inl lt ↦ lt
    | inr ge ↦ absurd (some (past (children_to lists y (nodes lists)) k 0 ge))
  ]

  -- the places of a tree with few children a node are a numbering
  pub is_numbering : IsNumbering lists (places_in lists)
  unfolding place_in child_in
  is_numbering = record {
    inside = λ x node. omega (arith, (stands x node).0, has (parent lists x));
    there = λ x node. (stands x node).1;
    child_is = λ y k inside some.
        let at = at_place lists y (nodes lists) k (there y k some) in
        ((at.0, at.1), at.2, ap (λ (z : ℕ). length (children_to lists z (child_in lists y k - 1))) at.2 ∙ at.3);
  }

-- a tree of few nodes has few children a node
pub small : (lists : Lists) → nodes lists ≤ most_nodes → HasFewChildren lists
small lists le y = omega (arith, le, few lists y (nodes lists))

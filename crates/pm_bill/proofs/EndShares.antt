-- What a phase's end says of shares and groups is what the plain auction of its cut says.
use Rattle.std.proofs.Common.{◌≡◌, ◌∙◌, sym, ap, subst, ℕ, zero, suc, ◌+◌, ◌≤◌, ◌<◌, ℤ, Bool, true, false, List, [], ◌∷◌}
use Rattle.std.proofs.Common.{length, map, refl, arith, inl, inr, Option, Some, None}
use Rattle.std.specs.Prelude.{All, filter, find, ◌==◌}
use Rattle.std.specs.List.{range_with_len}
use Rattle.std.specs.Option.{option_map_or, option_or}
use Rattle.std.proofs.lemmas.Bool.{cases_Bool, cases_lt, cond-true, cond-false, eq-eqb, ne_eqb, both_ways}
use Rattle.std.proofs.lemmas.List.Folds.{find-append}
use Rattle.std.proofs.lemmas.List.{map-append}
use Rattle.std.proofs.lemmas.List.Elements.{All-head, All-tail, filter-append}
use Rattle.std.proofs.lemmas.List.FromFn.{get_or-range_with_len, length-range_with_len}
use Rattle.pm_base.specs.Cuts.{Cut}
use Rattle.pm_base.specs.declared.limits.Limits.{Limits}
use Rattle.pm_base.proofs.Lists.{range_with_len-more}
use Rattle.pm_base.proofs.Options.{none_of}
use Rattle.pm_basis.specs.Prices.{price_at}
use Rattle.pm_bid.specs.Limited.{local_step}
use Rattle.pm_plan.specs.declared.end.LimitedLine.{LimitedLine}
use Rattle.pm_plan.specs.Plans.{PlanData, node, limits_of, is_limited, node_numbers}
use Rattle.pm_plan.specs.Auction.{sum_in, plain_step, local_step_of_group, limited_line, end_in}
use Rattle.pm_plan.specs.States.{state, end_of}
use Rattle.pm_plan.proofs.Drafts.{limited_is_no_root}
use Rattle.pm_offer.proofs.GroupPowers.{step_of}
use Rattle.pm_bill.specs.Charges.{price_in_end}
use Rattle.pm_bill.proofs.GroupShares.{group_price}

-- ---- the line of a group

-- what is found in a list is an element of it
pub found_holds : {X : Type 0} (P : X → Type 0) (p : X → Bool) (xs : List X) (x : X) → find p xs ≡ Some x → All P xs → P x
found_holds P p [] x found all = absurd (cc found)
found_holds P p (y ∷ xs) x found all = elim (cases_Bool (p y)) [
  | inl here ↦
      let same : y ≡ x = let first : Some y ≡ Some x = sym (cond-true (p y) (Some y) (find p xs) here) ∙ found in cc in
      subst P same (All-head P y xs all)
  | inr other ↦ found_holds P p xs x (sym (cond-false (p y) (Some y) (find p xs) other) ∙ found) (All-tail P y xs all)
]

-- a line of another node than those of a list is not found
not_found : (line : ℕ → LimitedLine) (p : ℕ → Bool) (g : ℕ) → ((x : ℕ) → (line x).node ≡ x) → (xs : List ℕ) →
    All (λ x. p x ≡ true → x ≡ g → ⊥) xs → find (λ l. l.node == g) (map line (filter p xs)) ≡ None
not_found line p g nodes [] others = refl
not_found line p g nodes (x ∷ xs) others =
    let rest = not_found line p g nodes xs (All-tail (λ y. p y ≡ true → y ≡ g → ⊥) x xs others) in
    let finds : List ℕ → Option LimitedLine = λ ys. find (λ l. l.node == g) (map line ys) in
    elim (cases_Bool (p x)) [
      | inl kept ↦
          let other : (line x).node ≡ g → ⊥ = λ same.
          All-head (λ y. p y ≡ true → y ≡ g → ⊥) x xs others kept (sym (nodes x) ∙ same) in
          ap finds (cond-true (p x) (x ∷ filter p xs) (filter p xs) kept)
          ∙ cond-false ((line x).node == g) (Some (line x)) (finds (filter p xs)) (ne_eqb (line x).node g other)
          ∙ rest
      | inr left ↦ ap finds (cond-false (p x) (x ∷ filter p xs) (filter p xs) left) ∙ rest
    ]

earlier_lines : (p : ℕ → Bool) (n g : ℕ) → n < g → All (λ x. p x ≡ true → x ≡ g → ⊥) (range_with_len 1 n)
earlier_lines p n g later i d inside =
    let long = length-range_with_len 1 n in
    let here = get_or-range_with_len 1 n i d (omega arith) in
    λ kept same. omega arith

-- the line of a node that passes the test is found
line_found : (line : ℕ → LimitedLine) (p : ℕ → Bool) (n g : ℕ) → ((x : ℕ) → (line x).node ≡ x) → p g ≡ true → 1 ≤ g → g ≤ n →
    find (λ l. l.node == g) (map line (filter p (range_with_len 1 n))) ≡ Some (line g)
line_found line p zero g nodes kept one inside = absurd (omega arith)
line_found line p (suc n) g nodes kept one inside =
    let finds : List LimitedLine → Option LimitedLine = λ lines. find (λ l. l.node == g) lines in
    let m : suc n ≡ n + 1 = omega arith in
    let front = map line (filter p (range_with_len 1 n)) in
    let last = map line (filter p ((1 + n) ∷ [])) in
    let parts : finds (map line (filter p (range_with_len 1 (suc n)))) ≡ option_or (finds front) (finds last) =
    ap (λ k. finds (map line (filter p (range_with_len 1 k)))) m
    ∙ ap (λ xs. finds (map line (filter p xs))) (range_with_len-more 1 n)
    ∙ ap (λ xs. finds (map line xs)) (filter-append p (range_with_len 1 n) ((1 + n) ∷ []))
    ∙ ap finds (map-append line (filter p (range_with_len 1 n)) (filter p ((1 + n) ∷ [])))
    ∙ find-append (λ l. l.node == g) front last in
    elim (cases_lt n g) [
      | inl later ↦
          let here : 1 + n ≡ g = omega arith in
          let kept_here : filter p ((1 + n) ∷ []) ≡ g ∷ [] = ap (λ k. filter p (k ∷ [])) here ∙ cond-true (p g) (g ∷ []) [] kept in
          let own : finds (map line (g ∷ [])) ≡ Some (line g) = cond-true ((line g).node == g) (Some (line g)) None (eq-eqb (line g).node g (nodes g)) in
          parts
          ∙ ap (λ o. option_or o (finds last)) (not_found line p g nodes (range_with_len 1 n) (earlier_lines p n g later))
          ∙ ap (λ xs. finds (map line xs)) kept_here
          ∙ own
      | inr earlier ↦
          parts ∙ ap (λ o. option_or o (finds last)) (line_found line p n g nodes kept one earlier)
    ]

line_node : (plan : PlanData) (cut : Cut) (g : ℕ) → (limited_line plan (state plan) cut g).node ≡ g
unfolding limited_line
line_node plan cut g = refl

line_price : (plan : PlanData) (cut : Cut) (g : ℕ) → price_at plan.basis (limited_line plan (state plan) cut g).step ≡ group_price plan cut g
unfolding limited_line
line_price plan cut g = refl

-- the step of a group without limits is that of the whole
pub unlimited_step : (plan : PlanData) (cut : Cut) (g : ℕ) → is_limited plan g ≡ false → plain_step plan (state plan) cut ≡ step_of plan cut g
unfolding local_step_of_group
unlimited_step plan cut g free =
    sym (ap (λ (own : Option Limits). local_step own (plain_step plan (state plan) cut) (sum_in plan (state plan) cut g))
    (none_of (limits_of (node plan g)) free))

-- the price of a group at an end
pub price-in_end : (plan : PlanData) (cut : Cut) (g : ℕ) → (is_limited plan g ≡ true → g ≤ length plan.nodes) →
    price_in_end plan (end_of plan cut) g ≡ group_price plan cut g
unfolding end_in
price-in_end plan cut g inside =
    let line : ℕ → LimitedLine = limited_line plan (state plan) cut in
    let price : Option LimitedLine → ℤ = λ found.
    option_map_or (λ line. price_at plan.basis line.step) found (price_at plan.basis (plain_step plan (state plan) cut)) in
    elim (cases_Bool (is_limited plan g)) [
      | inl bounded ↦
          ap price (line_found line (is_limited plan) (length plan.nodes) g (line_node plan cut) bounded (limited_is_no_root plan g bounded) (inside bounded))
          ∙ line_price plan cut g
      | inr free ↦
          ap price (not_found line (is_limited plan) g (line_node plan cut) (node_numbers plan)
          (λ i d within kept same. both_ways (is_limited plan g) free (sym (ap (is_limited plan) same) ∙ kept)))
          ∙ ap (price_at plan.basis) (unlimited_step plan cut g free)
    ]

-- Who stands above whom, one level at a time, and that each node below y stands at or below one child of y.
use Rattle.std.proofs.Common.{◌≡◌, ◌∙◌, sym, ap, subst, ℕ, zero, suc, ◌<◌, ◌≤◌, ℤ, pos, ◌+ℤ◌, Bool, true, false, cond, eqb, inl}
use Rattle.std.proofs.Common.{inr, refl, arith}
use Rattle.std.specs.Prelude.{◌&&◌, ◌||◌, not, ◌≢◌}
use Rattle.std.proofs.lemmas.Bool.{cases_eq, eqb-true, eq-eqb, ne_eqb, or_cases, or_left, or_right, and_parts, and_from, cond-false, both_ways}
use Rattle.std.proofs.lemmas.Int.{ints}
use Rattle.pm_market.specs.Lists.{Lists, nodes, parent, is_leaf, IsNode, IsLeaf, is_below_in, is_below, Lawful}
use Rattle.pm_market.specs.Offers.{int_sum_to}
use Rattle.pm_market.proofs.Loops.{same_tests}
use Rattle.pm_market.proofs.Tree.{up_le, up_from_below, parent_zero, parent_smaller}
use Rattle.pm_laws.proofs.Offers.{int_sum_same, int_sum_add}
use Rattle.pm_offer.proofs.Sums.{sum_zeros, sum_at}

-- what holds of the auctioneer, and of each node whose parent it holds of, holds of every node
pub climb : (lists : Lists) → Lawful lists → (P : ℕ → Type 0) → P 0 → ((z : ℕ) → 1 ≤ z → P (parent lists z) → P z) → (z : ℕ) → P z
climb lists law P base next z = go z z (omega arith)
  where
    go : (n z : ℕ) → z ≤ n → P z
    go n zero h = base
    go zero (suc z) h = absurd (omega arith)
    go (suc n) (suc z) h =
        let small : parent lists (suc z) < suc z = parent_smaller lists law (suc z) (omega arith) in
        next (suc z) (omega arith) (go n (parent lists (suc z)) (omega arith))

same_twice : (b : Bool) → (b || b) ≡ b
same_twice true = refl
same_twice false = refl

below_in_zero : (lists : Lists) (levels x : ℕ) → is_below_in lists levels x 0 ≡ eqb x 0
unfolding is_below_in
below_in_zero lists zero x = refl
below_in_zero lists (suc levels) x =
    ap (λ d. eqb x 0 || is_below_in lists levels x d) (parent_zero lists)
    ∙ ap (λ b. eqb x 0 || b) (below_in_zero lists levels x) ∙ same_twice (eqb x 0)

-- more levels than the node's number find the same
below_in_same : (lists : Lists) → Lawful lists → (n levels x z : ℕ) → levels ≤ n → z ≤ levels →
    is_below_in lists levels x z ≡ is_below_in lists z x z
unfolding is_below_in
below_in_same lists law n levels x zero h l = below_in_zero lists levels x
below_in_same lists law n zero x (suc z) h l = absurd (omega arith)
below_in_same lists law zero (suc levels) x (suc z) h l = absurd (omega arith)
below_in_same lists law (suc n) (suc levels) x (suc z) h l =
    let small : parent lists (suc z) < suc z = parent_smaller lists law (suc z) (omega arith) in
    ap (λ b. eqb x (suc z) || b)
    (below_in_same lists law n levels x (parent lists (suc z)) (omega arith) (omega arith)
    ∙ sym (below_in_same lists law n z x (parent lists (suc z)) (omega arith) (omega arith)))

-- the auctioneer is x or stands below x exactly where x is the auctioneer
pub below_zero : (lists : Lists) (x : ℕ) → is_below lists x 0 ≡ eqb x 0
unfolding is_below
below_zero lists x = below_in_zero lists 0 x

-- from a node to its parent
pub below_up : (lists : Lists) → Lawful lists → (x z : ℕ) → 1 ≤ z → is_below lists x z ≡ (eqb x z || is_below lists x (parent lists z))
unfolding is_below is_below_in
below_up lists law x zero one = absurd (omega arith)
below_up lists law x (suc z) one =
    let small : parent lists (suc z) < suc z = parent_smaller lists law (suc z) one in
    ap (λ b. eqb x (suc z) || b) (below_in_same lists law z z x (parent lists (suc z)) (omega arith) (omega arith))

-- each node stands at or below itself
pub below_self : (lists : Lists) → Lawful lists → (z : ℕ) → is_below lists z z ≡ true
below_self lists law z = elim (cases_eq z 0) [
  | inl none ↦ subst (λ (d : ℕ). is_below lists d d ≡ true) (sym none) (below_zero lists 0 ∙ eq-eqb 0 0 refl)
  | inr some ↦ below_up lists law z z (omega arith) ∙ or_left (eqb z z) (is_below lists z (parent lists z)) (eq-eqb z z refl)
]

-- a node that is x or stands below x has a number of at least x
pub below_least : (lists : Lists) → Lawful lists → (x z : ℕ) → is_below lists x z ≡ true → x ≤ z
below_least lists law x z h = let r = up_from_below lists x z h in omega (arith, up_le lists law r.0 z, r.1)

-- what stands at or above the parent stands above the node
pub below_parent : (lists : Lists) → Lawful lists → (x z : ℕ) → is_below lists x (parent lists z) ≡ true → is_below lists x z ≡ true
below_parent lists law x z h = elim (cases_eq z 0) [
  | inl none ↦ subst (λ (d : ℕ). is_below lists x d ≡ true) (ap (parent lists) none ∙ parent_zero lists ∙ sym none) h
  | inr some ↦ below_up lists law x z (omega arith) ∙ or_right (eqb x z) (is_below lists x (parent lists z)) h
]

-- and the other way, where it is not the node itself
pub below_strict : (lists : Lists) → Lawful lists → (x z : ℕ) → is_below lists x z ≡ true → x ≢ z → is_below lists x (parent lists z) ≡ true
below_strict lists law x z h other = elim (cases_eq z 0) [
  | inl none ↦ absurd (other (let low : x ≤ z = below_least lists law x z h in omega arith))
  | inr some ↦ elim (or_cases (eqb x z) (is_below lists x (parent lists z)) (sym (below_up lists law x z (omega arith)) ∙ h)) [
    | inl e ↦ absurd (other (eqb-true x z e))
    | inr e ↦ e
  ]
]

-- a node stands above no node at or above it
pub not_below_parent : (lists : Lists) → Lawful lists → (z : ℕ) → 1 ≤ z → is_below lists z (parent lists z) ≡ true → ⊥
not_below_parent lists law z one h = omega (arith, below_least lists law z (parent lists z) h, parent_smaller lists law z one)

-- each node is the auctioneer or stands below it
pub below_auctioneer : (lists : Lists) → Lawful lists → (z : ℕ) → is_below lists 0 z ≡ true
below_auctioneer lists law z = climb lists law (λ (d : ℕ). is_below lists 0 d ≡ true) (below_self lists law 0) (λ d one h. below_parent lists law 0 d h) z

-- two levels of standing below are one
pub below_below : (lists : Lists) → Lawful lists → (x g z : ℕ) → is_below lists x g ≡ true → is_below lists g z ≡ true →
    is_below lists x z ≡ true
below_below lists law x g z at =
    climb lists law (λ (d : ℕ). is_below lists g d ≡ true → is_below lists x d ≡ true)
    (λ h. subst (λ (e : ℕ). is_below lists x e ≡ true) (let low : g ≤ 0 = below_least lists law g 0 h in let none : g ≡ 0 = omega arith in none) at)
    (λ d one before h. elim (cases_eq g d) [
      | inl same ↦ subst (λ (e : ℕ). is_below lists x e ≡ true) same at
      | inr other ↦ below_parent lists law x d (before (below_strict lists law g d h other))
    ]) z

-- where z stands at or below x, so does its parent at or below that of x
pub below_both : (lists : Lists) → Lawful lists → (x z : ℕ) → is_below lists x z ≡ true → is_below lists (parent lists x) (parent lists z) ≡ true
below_both lists law x z =
    climb lists law (λ (d : ℕ). is_below lists x d ≡ true → is_below lists (parent lists x) (parent lists d) ≡ true)
    (λ h. let low : x ≤ 0 = below_least lists law x 0 h in at_itself 0 (omega arith))
    (λ d one before h. elim (cases_eq x d) [
      | inl same ↦ at_itself d same
      | inr other ↦ below_parent lists law (parent lists x) (parent lists d) (before (below_strict lists law x d h other))
    ]) z
  where
    at_itself : (d : ℕ) → x ≡ d → is_below lists (parent lists x) (parent lists d) ≡ true
    at_itself d same = subst (λ (e : ℕ). is_below lists (parent lists x) (parent lists e) ≡ true) same (below_self lists law (parent lists x))

-- below a device stands no node but itself
pub below_leaf : (lists : Lists) → Lawful lists → (x : ℕ) → IsLeaf lists x → (z : ℕ) → z ≤ nodes lists →
    is_below lists x z ≡ true → z ≡ x
below_leaf lists law x leaf z =
    climb lists law (λ (d : ℕ). d ≤ nodes lists → is_below lists x d ≡ true → d ≡ x)
    (λ inside h. let low : x ≤ 0 = below_least lists law x 0 h in omega arith)
    (λ d one before inside h. elim (cases_eq x d) [
      | inl same ↦ sym same
      | inr other ↦
          let small : parent lists d < d = parent_smaller lists law d one in
          let up_is : parent lists d ≡ x = before (omega arith) (below_strict lists law x d h other) in
          absurd (both_ways (is_leaf lists x) (ap (is_leaf lists) (sym up_is) ∙ law.inner d (one, inside)) leaf)
    ]) z

-- ---- each node below y stands at or below one child of y

strict : (lists : Lists) → Lawful lists → (y z : ℕ) → 1 ≤ z → (is_below lists y z && not (eqb y z)) ≡ is_below lists y (parent lists z)
strict lists law y z one = same_tests (is_below lists y z && not (eqb y z)) (is_below lists y (parent lists z))
    (λ h. let parts = and_parts (is_below lists y z) (not (eqb y z)) h in
    below_strict lists law y z parts.0 (λ same. both_ways (not (eqb y z)) (ap not (eq-eqb y z same)) parts.1))
    (λ h. and_from (is_below lists y z) (not (eqb y z)) (below_parent lists law y z h)
    (ap not (ne_eqb y z (λ same. not_below_parent lists law z one (subst (λ (d : ℕ). is_below lists d (parent lists z) ≡ true) same h)))))

-- a node counts at its parent, or further up
counted_up : (a b below : Bool) (v : ℤ) → a ≡ b → (b ≡ true → below ≡ true) → cond a v (pos 0) +ℤ cond (below && not b) v (pos 0)
    ≡ cond below v (pos 0)
counted_up true true true v e h = omega (arith, ints)
counted_up true true false v e h = absurd (cc (h refl))
counted_up true false below v e h = absurd (cc e)
counted_up false true below v e h = absurd (cc e)
counted_up false false true v e h = omega (arith, ints)
counted_up false false false v e h = omega (arith, ints)

-- what a child x adds to a node z below it is added where x is z, or where x stands at or above the parent of z
counted_once : (child same below : Bool) (v : ℤ) → (same ≡ true → below ≡ true → ⊥) →
    cond child (cond (same || below) v (pos 0)) (pos 0) ≡ cond same (cond child v (pos 0)) (pos 0) +ℤ cond child (cond below v (pos 0)) (pos 0)
counted_once true true true v h = absurd (h refl refl)
counted_once true true false v h = omega (arith, ints)
counted_once true false true v h = omega (arith, ints)
counted_once true false false v h = omega (arith, ints)
counted_once false true true v h = absurd (h refl refl)
counted_once false true false v h = omega (arith, ints)
counted_once false false true v h = omega (arith, ints)
counted_once false false false v h = omega (arith, ints)

-- the term of a child x of y for a node z at or below x
abbrev child_term : Lists → ℕ → ℤ → ℕ → ℕ → ℤ
child_term lists y v z x = cond (eqb (parent lists x) y) (cond (is_below lists x z) v (pos 0)) (pos 0)

no_term : (b : Bool) (v : ℤ) → cond b (cond false v (pos 0)) (pos 0) ≡ pos 0
no_term true v = refl
no_term false v = refl

-- the auctioneer stands below no child
no_child : (lists : Lists) (y x : ℕ) (v : ℤ) → 1 ≤ x → child_term lists y v 0 x ≡ pos 0
no_child lists y x v one =
    ap (λ b. cond (eqb (parent lists x) y) (cond b v (pos 0)) (pos 0)) (below_zero lists x ∙ ne_eqb x 0 (λ e. omega arith))
    ∙ no_term (eqb (parent lists x) y) v

not_itself : (b : Bool) → (b && not b) ≡ false
not_itself true = refl
not_itself false = refl

at_children : (lists : Lists) → Lawful lists → (y : ℕ) (v : ℤ) (z : ℕ) → z ≤ nodes lists →
    int_sum_to (nodes lists) (child_term lists y v z) ≡ cond (is_below lists y z && not (eqb y z)) v (pos 0)
at_children lists law y v z =
    climb lists law (λ (d : ℕ). d ≤ nodes lists → int_sum_to (nodes lists) (child_term lists y v d)
    ≡ cond (is_below lists y d && not (eqb y d)) v (pos 0))
    (λ inside. sum_zeros (nodes lists) (child_term lists y v 0) (λ x one le. no_child lists y x v one)
    ∙ sym (cond-false (is_below lists y 0 && not (eqb y 0)) v (pos 0) (ap (λ b. b && not (eqb y 0)) (below_zero lists y) ∙ not_itself (eqb y 0))))
    (λ d one before inside.
    let n : ℕ = nodes lists in
    let p : ℕ = parent lists d in
    let small : p < d = parent_smaller lists law d one in
    let here : ℕ → ℤ = λ x. cond (eqb x d) (cond (eqb p y) v (pos 0)) (pos 0) in
    int_sum_same n (child_term lists y v d) (λ x. here x +ℤ child_term lists y v p x) (λ x x_one x_le. split lists law y v d x one)
    ∙ int_sum_add n here (child_term lists y v p)
    ∙ ap (λ (w : ℤ). w +ℤ int_sum_to n (child_term lists y v p)) (sum_at n d (cond (eqb p y) v (pos 0)) one inside)
    ∙ ap (λ (w : ℤ). cond (eqb p y) v (pos 0) +ℤ w) (before (omega arith))
    ∙ counted_up (eqb p y) (eqb y p) (is_below lists y p) v (turned p y)
    (λ e. subst (λ (w : ℕ). is_below lists y w ≡ true) (eqb-true y p e) (below_self lists law y))
    ∙ ap (λ b. cond b v (pos 0)) (sym (strict lists law y d one))) z
  where
    turned : (a b : ℕ) → eqb a b ≡ eqb b a
    turned a b = same_tests (eqb a b) (eqb b a) (λ e. eq-eqb b a (sym (eqb-true a b e))) (λ e. eq-eqb a b (sym (eqb-true b a e)))

    moved : (lists : Lists) (y d x : ℕ) (v : ℤ) →
        cond (eqb x d) (cond (eqb (parent lists x) y) v (pos 0)) (pos 0) ≡ cond (eqb x d) (cond (eqb (parent lists d) y) v (pos 0)) (pos 0)
    moved lists y d x v = elim (cases_eq x d) [
      | inl same ↦ ap (λ (e : ℕ). cond (eqb x d) (cond (eqb (parent lists e) y) v (pos 0)) (pos 0)) same
      | inr other ↦ cond-false (eqb x d) (cond (eqb (parent lists x) y) v (pos 0)) (pos 0) (ne_eqb x d other)
          ∙ sym (cond-false (eqb x d) (cond (eqb (parent lists d) y) v (pos 0)) (pos 0) (ne_eqb x d other))
    ]

    split : (lists : Lists) → Lawful lists → (y : ℕ) (v : ℤ) (d x : ℕ) → 1 ≤ d →
        child_term lists y v d x ≡ cond (eqb x d) (cond (eqb (parent lists d) y) v (pos 0)) (pos 0) +ℤ child_term lists y v (parent lists d) x
    split lists law y v d x one =
        ap (λ b. cond (eqb (parent lists x) y) (cond b v (pos 0)) (pos 0)) (below_up lists law x d one)
        ∙ counted_once (eqb (parent lists x) y) (eqb x d) (is_below lists x (parent lists d)) v
        (λ same below. not_below_parent lists law d one (subst (λ (e : ℕ). is_below lists e (parent lists d) ≡ true) (eqb-true x d same) below))
        ∙ ap (λ (w : ℤ). w +ℤ child_term lists y v (parent lists d) x) (moved lists y d x v)

-- v at each child of y that is z or above z adds up to v where z stands below y, else to 0
pub at_one_child : (lists : Lists) → Lawful lists → (y : ℕ) (v : ℤ) (z : ℕ) → IsNode lists z →
    int_sum_to (nodes lists) (λ x. cond (eqb (parent lists x) y) (cond (is_below lists x z) v (pos 0)) (pos 0))
    ≡ cond (is_below lists y (parent lists z)) v (pos 0)
at_one_child lists law y v z node = at_children lists law y v z node.1 ∙ ap (λ b. cond b v (pos 0)) (strict lists law y z node.0)

-- The sum over the leaves of a node is that of its children's sums.
use Rattle.std.proofs.Common.{◌≡◌, ℕ, zero, suc, ◌≤◌, ℤ, pos, ◌+ℤ◌, cond, eqb, inl, inr, refl, sym, ◌∙◌, ap, arith}
use Rattle.std.proofs.lemmas.Bool.{cases_eq, cases_Bool, cond-true, cond-false, both_ways, eq-eqb, ne_eqb, false_from_ne_true}
use Rattle.std.proofs.lemmas.Int.{ints}
use Rattle.pm_market.specs.Lists.{Lists, nodes, parent, is_leaf_of, IsLeaf, IsInner, IsLeafOf, child_at_or_above, Lawful}
use Rattle.pm_market.specs.Offers.{int_sum_to, sum_on, sum_children}
use Rattle.pm_market.proofs.Tree.{leaf_node, leaf_of_itself, leaf_of_leaf, leaf_of_parent, child_at_or_above_is, child_of}

-- sums of whole numbers from 1 to n are the same where their terms are
pub int_sum_same : (n : ℕ) (f g : ℕ → ℤ) → ((x : ℕ) → 1 ≤ x → x ≤ n → f x ≡ g x) → int_sum_to n f ≡ int_sum_to n g
unfolding int_sum_to
int_sum_same zero f g h = refl
int_sum_same (suc n) f g h = ap (λ (z : ℤ). z +ℤ int_sum_to n f) (h (suc n) (omega arith) (omega arith))
    ∙ ap (λ (z : ℤ). g (suc n) +ℤ z) (int_sum_same n f g (λ x one le. h x one (omega arith)))

-- a sum of whole numbers that are all 0 is 0
pub int_sum_none : (n : ℕ) → int_sum_to n (λ x. pos 0) ≡ pos 0
unfolding int_sum_to
int_sum_none zero = refl
int_sum_none (suc n) = omega (arith, ints, int_sum_none n)

-- a sum of whole numbers from 1 to n, of two functions added, is their two sums added
pub int_sum_add : (n : ℕ) (f g : ℕ → ℤ) → int_sum_to n (λ x. f x +ℤ g x) ≡ int_sum_to n f +ℤ int_sum_to n g
unfolding int_sum_to
int_sum_add zero f g = omega (arith, ints)
int_sum_add (suc n) f g = omega (arith, ints, int_sum_add n f g)

-- two nested sums of whole numbers are the same with their ranges in the other order
pub int_sum_swap : (m n : ℕ) (f : ℕ → ℕ → ℤ) → int_sum_to m (λ x. int_sum_to n (λ d. f x d)) ≡ int_sum_to n (λ d. int_sum_to m (λ x. f x d))
unfolding int_sum_to
int_sum_swap zero n f = sym (int_sum_none n)
int_sum_swap (suc m) n f = ap (λ (z : ℤ). int_sum_to n (λ d. f (suc m) d) +ℤ z) (int_sum_swap m n f)
    ∙ sym (int_sum_add n (λ d. f (suc m) d) (λ d. int_sum_to m (λ x. f x d)))

-- one term alone
pub int_sum_only : (n : ℕ) (f : ℕ → ℤ) (k : ℕ) → 1 ≤ k → k ≤ n →
    ((x : ℕ) → (x ≡ k → ⊥) → 1 ≤ x → x ≤ n → f x ≡ pos 0) → int_sum_to n f ≡ f k
unfolding int_sum_to
int_sum_only zero f k one le h = absurd (omega arith)
int_sum_only (suc n) f k one le h =
    elim (cases_eq k (suc n)) [
      | inl e ↦
          let rest : int_sum_to n f ≡ pos 0 =
          int_sum_same n f (λ x. pos 0) (λ x x_one x_le. h x (λ same. omega arith) x_one (omega arith)) ∙ int_sum_none n in
          ap (λ (z : ℤ). f (suc n) +ℤ z) rest ∙ ints_right (f (suc n)) ∙ ap f (sym e)
      | inr ne ↦
          let here : f (suc n) ≡ pos 0 = h (suc n) (λ same. ne (sym same)) (omega arith) (omega arith) in
          ap (λ (z : ℤ). z +ℤ int_sum_to n f) here ∙ ints_left (int_sum_to n f)
          ∙ int_sum_only n f k one (omega arith) (λ x x_ne x_one x_le. h x x_ne x_one (omega arith))
    ]
  where
    ints_right : (a : ℤ) → a +ℤ pos 0 ≡ a
    ints_right a = omega (arith, ints)

    ints_left : (a : ℤ) → pos 0 +ℤ a ≡ a
    ints_left a = omega (arith, ints)

-- the sum over the leaves of a device is the device's own term
pub sum_on_leaf : (lists : Lists) → Lawful lists → (x : ℕ) (f : ℕ → ℤ) → IsLeaf lists x → sum_on lists x f ≡ f x
unfolding sum_on
sum_on_leaf lists law x f leaf =
    let node = leaf_node lists law x leaf in
    int_sum_only (nodes lists) (λ d. cond (is_leaf_of lists x d) (f d) (pos 0)) x node.0 node.1 (λ d ne one le.
    cond-false (is_leaf_of lists x d) (f d) (pos 0) (false_from_ne_true (is_leaf_of lists x d) (λ e. ne (leaf_of_leaf lists law x d leaf e))))
    ∙ cond-true (is_leaf_of lists x x) (f x) (pos 0) (leaf_of_itself lists law x leaf)

-- each leaf of y counts at one child of y
at_one_child : (lists : Lists) → Lawful lists → (y d : ℕ) (v : ℤ) → IsInner lists y →
    int_sum_to (nodes lists) (λ x. cond (eqb (parent lists x) y) (cond (is_leaf_of lists x d) v (pos 0)) (pos 0)) ≡ cond (is_leaf_of lists y d) v (pos 0)
at_one_child lists law y d v inner =
    let term : ℕ → ℤ = λ x. cond (eqb (parent lists x) y) (cond (is_leaf_of lists x d) v (pos 0)) (pos 0) in
    elim (cases_Bool (is_leaf_of lists y d)) [
      | inl e ↦
          let x = child_of lists law y d inner e in
          int_sum_only (nodes lists) term x.0 x.1.0 x.1.1 (λ z ne one le.
          elim (cases_eq (parent lists z) y) [
            | inl up ↦ cond-true (eqb (parent lists z) y) (cond (is_leaf_of lists z d) v (pos 0)) (pos 0) (eq-eqb (parent lists z) y up)
                ∙ cond-false (is_leaf_of lists z d) v (pos 0) (false_from_ne_true (is_leaf_of lists z d) (λ at.
                ne (sym (child_at_or_above_is lists law z d one at) ∙ ap (λ (w : ℕ). child_at_or_above lists w d) (up ∙ sym x.2) ∙
                child_at_or_above_is lists law x.0 d x.1.0 x.3)))
            | inr other ↦ cond-false (eqb (parent lists z) y) (cond (is_leaf_of lists z d) v (pos 0)) (pos 0) (ne_eqb (parent lists z) y other)
          ])
          ∙ cond-true (eqb (parent lists x.0) y) (cond (is_leaf_of lists x.0 d) v (pos 0)) (pos 0) (eq-eqb (parent lists x.0) y x.2)
          ∙ cond-true (is_leaf_of lists x.0 d) v (pos 0) x.3
          ∙ sym (cond-true (is_leaf_of lists y d) v (pos 0) e)
      | inr none ↦
          int_sum_same (nodes lists) term (λ x. pos 0) (λ z one le.
          elim (cases_eq (parent lists z) y) [
            | inl up ↦ cond-true (eqb (parent lists z) y) (cond (is_leaf_of lists z d) v (pos 0)) (pos 0) (eq-eqb (parent lists z) y up)
                ∙ cond-false (is_leaf_of lists z d) v (pos 0) (false_from_ne_true (is_leaf_of lists z d) (λ at.
                both_ways (is_leaf_of lists y d) none (sym (ap (λ (w : ℕ). is_leaf_of lists w d) up) ∙ leaf_of_parent lists law z d at)))
            | inr other ↦ cond-false (eqb (parent lists z) y) (cond (is_leaf_of lists z d) v (pos 0)) (pos 0) (ne_eqb (parent lists z) y other)
          ])
          ∙ int_sum_none (nodes lists) ∙ sym (cond-false (is_leaf_of lists y d) v (pos 0) none)
    ]

-- the sum over the leaves of an inner node is the sum of its children's
pub sum_on_inner : (lists : Lists) → Lawful lists → (y : ℕ) (f : ℕ → ℤ) → IsInner lists y →
    sum_on lists y f ≡ sum_children lists y (λ x. sum_on lists x f)
unfolding sum_on sum_children
sum_on_inner lists law y f inner =
    let n : ℕ = nodes lists in
    sym (int_sum_same n (λ x. cond (eqb (parent lists x) y) (int_sum_to n (λ d. cond (is_leaf_of lists x d) (f d) (pos 0))) (pos 0))
    (λ x. int_sum_to n (λ d. cond (eqb (parent lists x) y) (cond (is_leaf_of lists x d) (f d) (pos 0)) (pos 0))) (λ x one le.
    elim (cases_Bool (eqb (parent lists x) y)) [
      | inl e ↦ cond-true (eqb (parent lists x) y) (int_sum_to n (λ d. cond (is_leaf_of lists x d) (f d) (pos 0))) (pos 0) e
          ∙ int_sum_same n (λ d. cond (is_leaf_of lists x d) (f d) (pos 0))
          (λ d. cond (eqb (parent lists x) y) (cond (is_leaf_of lists x d) (f d) (pos 0)) (pos 0))
          (λ d d_one d_le. sym (cond-true (eqb (parent lists x) y) (cond (is_leaf_of lists x d) (f d) (pos 0)) (pos 0) e))
      | inr e ↦ cond-false (eqb (parent lists x) y) (int_sum_to n (λ d. cond (is_leaf_of lists x d) (f d) (pos 0))) (pos 0) e
          ∙ sym (int_sum_same n (λ d. cond (eqb (parent lists x) y) (cond (is_leaf_of lists x d) (f d) (pos 0)) (pos 0)) (λ d. pos 0)
          (λ d d_one d_le. cond-false (eqb (parent lists x) y) (cond (is_leaf_of lists x d) (f d) (pos 0)) (pos 0) e) ∙ int_sum_none n)
    ])
    ∙ int_sum_swap n n (λ x d. cond (eqb (parent lists x) y) (cond (is_leaf_of lists x d) (f d) (pos 0)) (pos 0))
    ∙ int_sum_same n (λ d. int_sum_to n (λ x. cond (eqb (parent lists x) y) (cond (is_leaf_of lists x d) (f d) (pos 0)) (pos 0)))
    (λ d. cond (is_leaf_of lists y d) (f d) (pos 0)) (λ d one le. at_one_child lists law y d (f d) inner))

-- it depends on the leaves alone
pub sum_on_same : (lists : Lists) (x : ℕ) (f g : ℕ → ℤ) → ((d : ℕ) → IsLeafOf lists x d → f d ≡ g d) → sum_on lists x f ≡ sum_on lists x g
unfolding sum_on
sum_on_same lists x f g h =
    int_sum_same (nodes lists) (λ d. cond (is_leaf_of lists x d) (f d) (pos 0)) (λ d. cond (is_leaf_of lists x d) (g d) (pos 0)) (λ d one le.
    elim (cases_Bool (is_leaf_of lists x d)) [
      | inl e ↦ cond-true (is_leaf_of lists x d) (f d) (pos 0) e ∙ h d e ∙ sym (cond-true (is_leaf_of lists x d) (g d) (pos 0) e)
      | inr e ↦ cond-false (is_leaf_of lists x d) (f d) (pos 0) e ∙ sym (cond-false (is_leaf_of lists x d) (g d) (pos 0) e)
    ])

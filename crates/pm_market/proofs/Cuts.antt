-- Cuts on the leaves of a node, lists of cuts, and what is read of a state.
use Rattle.std.proofs.Common.{◌≡◌, ℕ, zero, suc, ◌+◌, ◌≤◌, Bool, true, false, cond, eqb, ◌⊎◌, inl, inr, List, [], ◌∷◌, ◌++◌}
use Rattle.std.proofs.Common.{length, refl, sym, ◌∙◌, ap, subst, arith}
use Rattle.std.proofs.lemmas.Bool.{cases_eq, cases_Bool, eqb-true, eq-eqb, ne_eqb, and_parts, and_from, and_cases, cond-true, cond-false, both_ways}
use Rattle.std.proofs.lemmas.Bool.{false_from_ne_true}
use Rattle.std.proofs.lemmas.List.{get_or_append_left, get_or_push, length_push}
use Rattle.pm_market.specs.Lists.{Lists, nodes, parent, is_leaf, IsLeaf, IsInner, IsLeafOf, is_leaf_of, Lawful}
use Rattle.pm_market.specs.State.{update, all_to, is_same_on, SameOn, AtMostOn, RisesOn, cut_at, newest_of, part_of, knowledge_of, greatest_number, number_of}
use Rattle.pm_market.specs.State.{no_changes}
use Rattle.pm_base.specs.Cuts.{Cut}
use Rattle.pm_market.proofs.Tree.{leaf_node, leaf_of_parts, child_at_or_above_is}

-- an updated function has the new value at the number that was updated
pub updated_same : {A : Type 0} → (f : ℕ → A) (x : ℕ) (v : A) → update f x v x ≡ v
unfolding update
updated_same f x v = cond-true (eqb x x) v (f x) (eq-eqb x x refl)

-- an updated function has its old value at every other number
pub updated_other : {A : Type 0} → (f : ℕ → A) (x : ℕ) (v : A) (y : ℕ) → (y ≡ x → ⊥) → update f x v y ≡ f y
unfolding update
updated_other f x v y n = cond-false (eqb y x) v (f y) (ne_eqb y x n)

-- where all numbers from 1 to n pass a test together, each of them passes it
pub all_to_at : (n : ℕ) (p : ℕ → Bool) → all_to n p ≡ true → (d : ℕ) → 1 ≤ d → d ≤ n → p d ≡ true
unfolding all_to
all_to_at zero p h d one le = absurd (omega arith)
all_to_at (suc n) p h d one le =
    let parts = and_parts (p (suc n)) (all_to n p) h in
    elim (cases_eq d (suc n)) [
      | inl e ↦ ap p e ∙ parts.0
      | inr ne ↦ all_to_at n p parts.1 d one (omega arith)
    ]

-- where each number from 1 to n passes a test, all of them pass it together
pub all_to_from : (n : ℕ) (p : ℕ → Bool) → ((d : ℕ) → 1 ≤ d → d ≤ n → p d ≡ true) → all_to n p ≡ true
unfolding all_to
all_to_from zero p h = refl
all_to_from (suc n) p h = and_from (p (suc n)) (all_to n p) (h (suc n) (omega arith) (omega arith)) (all_to_from n p (λ d one le. h d one (omega arith)))

-- where a test fails
pub all_to_fails : (n : ℕ) (p : ℕ → Bool) → all_to n p ≡ false → (d : ℕ) × (1 ≤ d) × (d ≤ n) × (p d ≡ false)
unfolding all_to
all_to_fails zero p h = absurd (Rattle.std.proofs.lemmas.Bool.true≢false h)
all_to_fails (suc n) p h =
    elim (and_cases (p (suc n)) (all_to n p) h) [
      | inl e ↦ (suc n, omega arith, omega arith, e)
      | inr e ↦ let r = all_to_fails n p e in (r.0, r.1, omega arith, r.3)
    ]

-- cuts that pass the test of sameness are the same on the leaves of the node, for lawful lists
pub same_from : (lists : Lists) → Lawful lists → (x : ℕ) (a b : Cut) → is_same_on lists x a b ≡ true → SameOn lists x a b
unfolding is_same_on
same_from lists law x a b h d leaf =
    let node = leaf_node lists law d (leaf_of_parts lists x d leaf).0 in
    let e = all_to_at (nodes lists) (λ (k : ℕ). cond (is_leaf_of lists x k) (eqb (a k) (b k)) true) h d node.0 node.1 in
    eqb-true (a d) (b d) (sym (cond-true (is_leaf_of lists x d) (eqb (a d) (b d)) true leaf) ∙ e)

-- cuts that are the same on the leaves of a node pass the test of sameness
pub is_same_from : (lists : Lists) (x : ℕ) (a b : Cut) → SameOn lists x a b → is_same_on lists x a b ≡ true
unfolding is_same_on
is_same_from lists x a b h = all_to_from (nodes lists) (λ (k : ℕ). cond (is_leaf_of lists x k) (eqb (a k) (b k)) true) (λ d one le.
    elim (cases_Bool (is_leaf_of lists x d)) [
      | inl e ↦ cond-true (is_leaf_of lists x d) (eqb (a d) (b d)) true e ∙ eq-eqb (a d) (b d) (h d e)
      | inr e ↦ cond-false (is_leaf_of lists x d) (eqb (a d) (b d)) true e
    ])

-- cuts that are not the same on the leaves of a node fail the test of sameness, for lawful lists
pub not_same_from : (lists : Lists) → Lawful lists → (x : ℕ) (a b : Cut) → (SameOn lists x a b → ⊥) → is_same_on lists x a b ≡ false
not_same_from lists law x a b h = false_from_ne_true (is_same_on lists x a b) (λ e. h (same_from lists law x a b e))

-- cuts that fail the test of sameness are not the same on the leaves of the node
pub not_same : (lists : Lists) (x : ℕ) (a b : Cut) → is_same_on lists x a b ≡ false → SameOn lists x a b → ⊥
not_same lists x a b e h = both_ways (is_same_on lists x a b) e (is_same_from lists x a b h)

-- a cut at or above one that is strictly later than a is strictly later than a, on the leaves of a node
pub rises_then : (lists : Lists) → Lawful lists → (x : ℕ) (a b c : Cut) → RisesOn lists x a b → AtMostOn lists x b c → RisesOn lists x a c
rises_then lists law x a b c r w = record {
  within = λ d leaf. omega (arith, r.within d leaf, w d leaf);
  not_same = not_same_from lists law x a c (λ same. not_same lists x a b r.not_same (λ d leaf. omega (arith, r.within d leaf, w d leaf, same d leaf)));
}

-- a cut strictly later than one at or above a is strictly later than a, on the leaves of a node
pub within_then_rises : (lists : Lists) → Lawful lists → (x : ℕ) (a b c : Cut) → AtMostOn lists x a b → RisesOn lists x b c → RisesOn lists x a c
within_then_rises lists law x a b c w r = record {
  within = λ d leaf. omega (arith, r.within d leaf, w d leaf);
  not_same = not_same_from lists law x a c (λ same. not_same lists x b c r.not_same (λ d leaf. omega (arith, r.within d leaf, w d leaf, same d leaf)));
}

-- lists of cuts

-- the cut of number 0 in a list of cuts contains no change
pub entry_zero : (cuts : List Cut) → cut_at cuts 0 ≡ no_changes
unfolding cut_at
entry_zero cuts = refl

-- numbers up to a list's length keep their cuts where one cut is appended
pub entry_kept : (cuts : List Cut) (cut : Cut) (i : ℕ) → i ≤ length cuts → cut_at (cuts ++ cut ∷ []) i ≡ cut_at cuts i
unfolding cut_at
entry_kept cuts cut i h = get_or_append_left (no_changes ∷ cuts) (cut ∷ []) no_changes i (omega arith)

-- a cut that is appended to a list stands under the next number
pub cut_at_new : (cuts : List Cut) (cut : Cut) (i : ℕ) → i ≡ length cuts + 1 → cut_at (cuts ++ cut ∷ []) i ≡ cut
unfolding cut_at
cut_at_new cuts cut i h = get_or_push (no_changes ∷ cuts) cut no_changes i (omega arith)

-- c's list has one more
abbrev pub pushed : {A : Type 0} → (ℕ → List A) → ℕ → A → ℕ → List A
pushed p c cut = update p c (p c ++ cut ∷ [])

-- with one more item at c, the list of c has it at its end
pub pushed_same : {A : Type 0} → (p : ℕ → List A) (c : ℕ) (cut : A) → pushed p c cut c ≡ p c ++ cut ∷ []
pushed_same p c cut = updated_same p c (p c ++ cut ∷ [])

-- with one more item at c, the list of every other node stays as it was
pub pushed_other : {A : Type 0} → (p : ℕ → List A) (c : ℕ) (cut : A) (y : ℕ) → (y ≡ c → ⊥) → pushed p c cut y ≡ p y
pushed_other p c cut y n = updated_other p c (p c ++ cut ∷ []) y n

-- with one more cut at c, cut i of each node stays, at c where i is at most its old length
pub pushed_cut_at_kept : (p : ℕ → List Cut) (c : ℕ) (cut : Cut) (y i : ℕ) → (y ≡ c → i ≤ length (p c)) →
    cut_at (pushed p c cut y) i ≡ cut_at (p y) i
pushed_cut_at_kept p c cut y i h =
    elim (cases_eq y c) [
      | inl e ↦ ap (λ (z : ℕ). cut_at (pushed p c cut z) i) e ∙ ap (λ (l : List Cut). cut_at l i) (pushed_same p c cut)
          ∙ entry_kept (p c) cut i (h e) ∙ ap (λ (z : ℕ). cut_at (p z) i) (sym e)
      | inr n ↦ ap (λ (l : List Cut). cut_at l i) (pushed_other p c cut y n)
    ]

-- with one more item at c, the list of c is longer by one
pub pushed_length_same : {A : Type 0} → (p : ℕ → List A) (c : ℕ) (cut : A) → length (pushed p c cut c) ≡ length (p c) + 1
pushed_length_same p c cut = ap length (pushed_same p c cut) ∙ length_push (p c) cut

-- with one more item at c, the list of every other node is as long as before
pub pushed_length_other : {A : Type 0} → (p : ℕ → List A) (c : ℕ) (cut : A) (y : ℕ) → (y ≡ c → ⊥) →
    length (pushed p c cut y) ≡ length (p y)
pushed_length_other p c cut y n = ap length (pushed_other p c cut y n)

-- with one more item at c, no node's list is shorter than before
pub pushed_length_le : {A : Type 0} → (p : ℕ → List A) (c : ℕ) (cut : A) (y : ℕ) → length (p y) ≤ length (pushed p c cut y)
pushed_length_le p c cut y =
    elim (cases_eq y c) [
      | inl e ↦ omega (arith, ap (λ (z : ℕ). length (p z)) e, ap (λ (z : ℕ). length (pushed p c cut z)) e, pushed_length_same p c cut)
      | inr n ↦ omega (arith, pushed_length_other p c cut y n)
    ]

-- numbers and parts

-- the newest number of a device is the count of its changes
pub newest_leaf : (lists : Lists) (counts : Cut) (p : ℕ → List Cut) (x : ℕ) → IsLeaf lists x → newest_of lists counts p x ≡ counts x
unfolding newest_of
newest_leaf lists counts p x leaf = cond-true (is_leaf lists x) (counts x) (length (p x)) leaf

-- the newest number of a node that is no device is how many cuts it published
pub newest_inner : (lists : Lists) (counts : Cut) (p : ℕ → List Cut) (x : ℕ) → IsInner lists x → newest_of lists counts p x ≡ length (p x)
unfolding newest_of
newest_inner lists counts p x inner = cond-false (is_leaf lists x) (counts x) (length (p x)) inner

-- a number of a device stands for that number itself
pub part_leaf : (lists : Lists) (p : ℕ → List Cut) (x i d : ℕ) → IsLeaf lists x → part_of lists p x i d ≡ i
unfolding part_of
part_leaf lists p x i d leaf = ap (λ (b : Bool). (cond b (λ (k : ℕ). i) (cut_at (p x) i)) d) leaf

-- a number of a node that is no device stands for the cut that it published under it
pub part_inner : (lists : Lists) (p : ℕ → List Cut) (x i : ℕ) → IsInner lists x → part_of lists p x i ≡ cut_at (p x) i
unfolding part_of
part_inner lists p x i inner = cond-false (is_leaf lists x) (λ (k : ℕ). i) (cut_at (p x) i) inner

-- number 0 of any node stands for 0 changes of every device
pub part_zero : (lists : Lists) (p : ℕ → List Cut) (x d : ℕ) → part_of lists p x 0 d ≡ 0
part_zero lists p x d =
    elim (cases_Bool (is_leaf lists x)) [
      | inl e ↦ part_leaf lists p x 0 d e
      | inr e ↦ ap (λ (a : Cut). a d) (part_inner lists p x 0 e ∙ entry_zero (p x))
    ]

-- with one more cut at c, what number i of a node stands for stays, at c where i is at most its old length
pub part_kept : (lists : Lists) (p : ℕ → List Cut) (c : ℕ) (cut : Cut) (x i : ℕ) → (x ≡ c → i ≤ length (p c)) →
    part_of lists (pushed p c cut) x i ≡ part_of lists p x i
unfolding part_of
part_kept lists p c cut x i h = ap (λ (a : Cut). cond (is_leaf lists x) (λ (k : ℕ). i) a) (pushed_cut_at_kept p c cut x i h)

-- of a leaf of x the parent of x knows the part of the number that it learnt from x
pub known_at : (lists : Lists) → Lawful lists → (p : ℕ → List Cut) (l : ℕ → ℕ) (x d : ℕ) → 1 ≤ x → IsLeafOf lists x d →
    knowledge_of lists p l (parent lists x) d ≡ part_of lists p x (l x) d
unfolding knowledge_of
known_at lists law p l x d one leaf = ap (λ (y : ℕ). part_of lists p y (l y) d) (child_at_or_above_is lists law x d one leaf)

-- the greatest_number number with a cut

-- the greatest number up to n with a cut is at most n
pub greatest_le : (lists : Lists) (cuts : List Cut) (x : ℕ) (cut : Cut) (n : ℕ) → greatest_number lists cuts x cut n ≤ n
unfolding greatest_number
greatest_le lists cuts x cut zero = omega arith
greatest_le lists cuts x cut (suc n) =
    elim (cases_Bool (is_same_on lists x (cut_at cuts (suc n)) cut)) [
      | inl e ↦ omega (arith, cond-true (is_same_on lists x (cut_at cuts (suc n)) cut) (suc n) (greatest_number lists cuts x cut n) e)
      | inr e ↦ omega (
        arith,
        cond-false (is_same_on lists x (cut_at cuts (suc n)) cut) (suc n)
            (greatest_number lists cuts x cut n) e,
        greatest_le lists cuts x cut n,
      )
    ]

-- it is at least each number with the cut
pub greatest_from : (lists : Lists) (cuts : List Cut) (x : ℕ) (cut : Cut) (n i : ℕ) → i ≤ n → SameOn lists x (cut_at cuts i) cut →
    i ≤ greatest_number lists cuts x cut n
unfolding greatest_number
greatest_from lists cuts x cut zero i h same = h
greatest_from lists cuts x cut (suc n) i h same =
    elim (cases_Bool (is_same_on lists x (cut_at cuts (suc n)) cut)) [
      | inl e ↦ omega (arith, cond-true (is_same_on lists x (cut_at cuts (suc n)) cut) (suc n) (greatest_number lists cuts x cut n) e)
      | inr e ↦ elim (cases_eq i (suc n)) [
        | inl ei ↦ absurd (not_same lists x (cut_at cuts (suc n)) cut e (subst (λ (k : ℕ). SameOn lists x (cut_at cuts k) cut) ei same))
        | inr ne ↦ omega (
          arith,
          cond-false (is_same_on lists x (cut_at cuts (suc n)) cut) (suc n)
              (greatest_number lists cuts x cut n) e,
          greatest_from lists cuts x cut n i (omega arith) same,
        )
      ]
    ]

-- it is 0, or has the cut
pub greatest_same : (lists : Lists) → Lawful lists → (cuts : List Cut) (x : ℕ) (cut : Cut) (n : ℕ) →
    (greatest_number lists cuts x cut n ≡ 0) ⊎ SameOn lists x (cut_at cuts (greatest_number lists cuts x cut n)) cut
unfolding greatest_number
greatest_same lists law cuts x cut zero = inl refl
greatest_same lists law cuts x cut (suc n) =
    elim (cases_Bool (is_same_on lists x (cut_at cuts (suc n)) cut)) [
      | inl e ↦ inr (subst (λ (k : ℕ). SameOn lists x (cut_at cuts k) cut)
          (sym (cond-true (is_same_on lists x (cut_at cuts (suc n)) cut) (suc n) (greatest_number lists cuts x cut n) e))
          (same_from lists law x (cut_at cuts (suc n)) cut e))
      | inr e ↦ subst (λ (k : ℕ). (k ≡ 0) ⊎ SameOn lists x (cut_at cuts k) cut)
          (sym (cond-false (is_same_on lists x (cut_at cuts (suc n)) cut) (suc n) (greatest_number lists cuts x cut n) e))
          (greatest_same lists law cuts x cut n)
    ]

-- what stands up to n alone decides
pub greatest_kept : (lists : Lists) (cuts more : List Cut) (x : ℕ) (cut : Cut) (n : ℕ) →
    ((i : ℕ) → i ≤ n → cut_at more i ≡ cut_at cuts i) → greatest_number lists more x cut n ≡ greatest_number lists cuts x cut n
unfolding greatest_number
greatest_kept lists cuts more x cut zero h = refl
greatest_kept lists cuts more x cut (suc n) h =
    let below : greatest_number lists more x cut n ≡ greatest_number lists cuts x cut n =
    greatest_kept lists cuts more x cut n (λ i le. h i (omega arith)) in
    ap (λ (a : Cut). cond (is_same_on lists x a cut) (suc n) (greatest_number lists more x cut n)) (h (suc n) (omega arith))
    ∙ ap (λ (k : ℕ). cond (is_same_on lists x (cut_at cuts (suc n)) cut) (suc n) k) below

-- the greatest number with a cut does not fall where one more number is looked at
pub greatest_more : (lists : Lists) (cuts : List Cut) (x : ℕ) (cut : Cut) (n : ℕ) →
    greatest_number lists cuts x cut n ≤ greatest_number lists cuts x cut (suc n)
unfolding greatest_number
greatest_more lists cuts x cut n =
    elim (cases_Bool (is_same_on lists x (cut_at cuts (suc n)) cut)) [
      | inl e ↦ omega (
        arith,
        cond-true (is_same_on lists x (cut_at cuts (suc n)) cut) (suc n) (greatest_number lists cuts x cut n) e,
        greatest_le lists cuts x cut n,
      )
      | inr e ↦ omega (arith, cond-false (is_same_on lists x (cut_at cuts (suc n)) cut) (suc n) (greatest_number lists cuts x cut n) e)
    ]

-- a cut's number of a node that is no device is the greatest under which the node published that cut
pub number_inner : (lists : Lists) (p : ℕ → List Cut) (x : ℕ) (cut : Cut) → IsInner lists x →
    number_of lists p x cut ≡ greatest_number lists (p x) x cut (length (p x))
unfolding number_of
number_inner lists p x cut inner = cond-false (is_leaf lists x) (cut x) (greatest_number lists (p x) x cut (length (p x))) inner

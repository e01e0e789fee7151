-- A legal journal has at most so many moves.
use Rattle.std.proofs.Common.{◌≡◌, ℕ, zero, suc, ◌+◌, ◌-◌, ◌*◌, ◌<◌, ◌≤◌, Bool, true, false, cond, eqb, ◌&&◌, ◌||◌, inl}
use Rattle.std.proofs.Common.{inr, List, [], ◌∷◌, length, get_or, refl, sym, ◌∙◌, ap, arith}
use Rattle.std.proofs.Math.Nat.{mul-le-mul_left, mul-le-mul_right}
use Rattle.std.proofs.lemmas.List.{get_or_default}
use Rattle.std.proofs.lemmas.Bool.{cases_eq, cases_lt, cases_Bool, eq-eqb, ne_eqb, cond-true, cond-false, both_ways}
use Rattle.pm_market.specs.Lists.{Lists, nodes, parent, is_leaf, changes, IsNode, IsLeaf, IsInner, IsLeafOf, is_leaf_of, is_below_in, is_below, Lawful}
use Rattle.pm_market.specs.Lists.{path_depth_in, path_depth}
use Rattle.pm_market.specs.State.{State, start, is_same_on, sum_to, AtMostOn, RisesOn, cut_at, newest_of, newest_number_of, part, knowledge, clearings}
use Rattle.pm_base.specs.Cuts.{Cut}
use Rattle.pm_market.specs.Moves.{Legal, step, after_from, LegalFrom, after, LegalJournal}
use Rattle.pm_market.specs.Sound.{Sound}
use Rattle.pm_market.specs.Bound.{bound, change_total}
use Rattle.pm_laws.specs.Potential.{potential_at, potential}
use Rattle.pm_market.specs.declared.moves.Move.{Move}
use Rattle.pm_market.specs.declared.moves.Move.TheVariants.{Change, Learn, Publish, Clear, Pass, Close}
use Rattle.pm_market.proofs.Tree.{leaf_node, leaf_zero, parent_smaller, leaf_of_parts, leaf_of_itself, leaf_of_leaf, child_of, up_from_below, up_from_below_in}
use Rattle.pm_market.proofs.Tree.{up_at_zero, up_le}
use Rattle.pm_market.proofs.Cuts.{all_to_fails, updated_same, updated_other, newest_leaf, newest_inner, part_leaf, part_inner, known_at, pushed_length_same}
use Rattle.pm_market.proofs.Cuts.{pushed_length_other}
use Rattle.pm_laws.proofs.Facts.{updated_at}
use Rattle.pm_laws.proofs.Kept.{sound_start, sound_after_from}
use Rattle.pm_laws.proofs.Sums.{sum_le, sum_lt, sum_at, sum_add, sum_same, sum_swap, sum_times, sum_scaled}

-- each legal move raises this
counted_more : (lists : Lists) (s t : State) → clearings s ≤ clearings t → s.closed ≤ t.closed →
    ((x : ℕ) → 1 ≤ x → x ≤ nodes lists → potential_at lists s x ≤ potential_at lists t x) → (k : ℕ) → 1 ≤ k → k ≤ nodes lists →
    potential_at lists s k < potential_at lists t k → potential lists s < potential lists t
unfolding potential
counted_more lists s t c p le k one k_le lt = omega (arith, sum_lt (nodes lists) (potential_at lists s) (potential_at lists t) le k one k_le lt)

counted_same : (lists : Lists) (s t : State) → clearings s + s.closed < clearings t + t.closed →
    ((x : ℕ) → 1 ≤ x → x ≤ nodes lists → potential_at lists s x ≤ potential_at lists t x) → potential lists s < potential lists t
unfolding potential
counted_same lists s t lt le = omega (arith, sum_le (nodes lists) (potential_at lists s) (potential_at lists t) le)

-- each legal move raises what is counted of the state
pub counted_step : (lists : Lists) → Lawful lists → (s : State) (m : Move) → Legal lists s m → potential lists s < potential lists (step lists s m)
unfolding potential_at
counted_step lists law s (Change d n) legal =
    let node = leaf_node lists law d legal.0 in
    let t : State = step lists s (Change d n) in
    let newest_d : newest_number_of lists s d < newest_number_of lists t d = omega (
      arith,
      newest_leaf lists s.counts s.published d legal.0,
      newest_leaf lists t.counts s.published d legal.0,
      updated_same s.counts d n,
      legal.2,
    ) in
    counted_more lists s t (omega arith) (omega arith) (λ x one le.
    elim (cases_eq x d) [
      | inl e ↦ omega (arith, ap (newest_number_of lists s) e, ap (newest_number_of lists t) e, newest_d)
      | inr ne ↦ omega (
        arith,
        ap (λ (k : ℕ). newest_of lists (λ z. k) s.published x) (updated_other s.counts d n x ne),
        newest_at lists s.counts s.published x,
        newest_at lists t.counts s.published x,
      )
    ]) d node.0 node.1 (omega arith)
  where
    newest_at : (lists : Lists) (counts : Cut) (p : ℕ → List Cut) (x : ℕ) → newest_of lists counts p x ≡ newest_of lists (λ z. counts x) p x
    newest_at lists counts p x = elim (cases_Bool (is_leaf lists x)) [
      | inl e ↦ newest_leaf lists counts p x e ∙ sym (newest_leaf lists (λ z. counts x) p x e)
      | inr e ↦ newest_inner lists counts p x e ∙ sym (newest_inner lists (λ z. counts x) p x e)
    ]
counted_step lists law s (Learn c n) legal =
    let t : State = step lists s (Learn c n) in
    counted_more lists s t (omega arith) (omega arith) (λ x one le.
    elim (updated_at s.learnt c n x) [
      | inl w ↦ omega (arith, w.1, ap s.learnt w.0, legal.1)
      | inr w ↦ omega (arith, w.1)
    ]) c legal.0.0 legal.0.1 (omega (arith, updated_same s.learnt c n, legal.1))
counted_step lists law s (Publish c n) legal =
    let t : State = step lists s (Publish c n) in
    let p : ℕ → List Cut = s.published in
    let cut : Cut = knowledge lists s c in
    let newest_c : newest_number_of lists s c < newest_number_of lists t c =
    omega (arith, newest_inner lists s.counts p c legal.0.2, newest_inner lists s.counts t.published c legal.0.2, pushed_length_same p c cut) in
    counted_more lists s t (omega (arith, pushed_length_other p c cut 0 (λ e. omega (arith, legal.0.0)))) (omega arith) (λ x one le.
    elim (cases_eq x c) [
      | inl e ↦ omega (arith, ap (newest_number_of lists s) e, ap (newest_number_of lists t) e, newest_c)
      | inr ne ↦ elim (cases_Bool (is_leaf lists x)) [
        | inl leaf ↦ omega (arith, newest_leaf lists s.counts p x leaf, newest_leaf lists s.counts t.published x leaf)
        | inr inner ↦ omega (arith, newest_inner lists s.counts p x inner, newest_inner lists s.counts t.published x inner, pushed_length_other p c cut x ne)
      ]
    ]) c legal.0.0 legal.0.1 (omega arith)
counted_step lists law s (Clear j) legal =
    let t : State = step lists s (Clear j) in
    let p : ℕ → List Cut = s.published in
    let cut : Cut = knowledge lists s 0 in
    counted_same lists s t (omega (arith, pushed_length_same p 0 cut)) (λ x one le.
    elim (cases_Bool (is_leaf lists x)) [
      | inl leaf ↦ omega (arith, newest_leaf lists s.counts p x leaf, newest_leaf lists s.counts t.published x leaf)
      | inr inner ↦ omega (
        arith,
        newest_inner lists s.counts p x inner,
        newest_inner lists s.counts t.published x inner,
        pushed_length_other p 0 cut x (λ e. omega arith),
      )
    ])
counted_step lists law s (Pass c j) legal =
    let t : State = step lists s (Pass c j) in
    let longer : length (t.passed c) ≡ length (s.passed c) + 1 = pushed_length_same s.passed c j in
    counted_more lists s t (omega arith) (omega arith) (λ x one le.
    elim (cases_eq x c) [
      | inl e ↦ omega (arith, longer, ap (λ (z : ℕ). length (s.passed z)) e, ap (λ (z : ℕ). length (t.passed z)) e)
      | inr ne ↦ omega (arith, pushed_length_other s.passed c j x ne)
    ]) c legal.0.0 legal.0.1 (omega (arith, longer))
counted_step lists law s (Close p) legal = counted_same lists s (step lists s (Close p)) (omega (arith, legal.0)) (λ x one le. omega arith)

counted_journal : (lists : Lists) → Lawful lists → (journal : List Move) (s : State) → LegalFrom lists s journal →
    length journal + potential lists s ≤ potential lists (after_from lists s journal)
counted_journal lists law [] s legal = omega arith
counted_journal lists law (m ∷ ms) s legal = omega (arith, counted_step lists law s m legal.0, counted_journal lists law ms (step lists s m) legal.1)

below_le : (lists : Lists) → Lawful lists → (x d : ℕ) → IsLeafOf lists x d → x ≤ d
below_le lists law x d leaf = let r = up_from_below lists x d (leaf_of_parts lists x d leaf).1 in omega (arith, r.1, up_le lists law r.0 d)

-- what a part says of a device is no more than the device's count
part_counts_leaf : (lists : Lists) → Lawful lists → (s : State) (x d i : ℕ) → IsLeaf lists x → IsLeafOf lists x d →
    i ≤ newest_number_of lists s x → part lists s x i d ≤ s.counts d
part_counts_leaf lists law s x d i e leaf le =
    omega (arith, part_leaf lists s.published x i d e, newest_leaf lists s.counts s.published x e, ap s.counts (leaf_of_leaf lists law x d e leaf))

part_counts_in : (lists : Lists) → Lawful lists → (s : State) → Sound lists s → (far x d i : ℕ) → d ≤ x + far → IsNode lists x →
    IsLeafOf lists x d → i ≤ newest_number_of lists s x → part lists s x i d ≤ s.counts d
part_counts_in lists law s sound zero x d i h node leaf le =
    elim (cases_Bool (is_leaf lists x)) [
      | inl e ↦ part_counts_leaf lists law s x d i e leaf le
      | inr e ↦ let y = child_of lists law x d e leaf in absurd (omega (arith, below_le lists law y.0 d y.3, parent_smaller lists law y.0 y.1.0, y.2))
    ]
part_counts_in lists law s sound (suc far) x d i h node leaf le =
    elim (cases_Bool (is_leaf lists x)) [
      | inl e ↦ part_counts_leaf lists law s x d i e leaf le
      | inr e ↦
          let y = child_of lists law x d e leaf in
          let i_le : i ≤ length (s.published (parent lists y.0)) =
          omega (arith, newest_inner lists s.counts s.published x e, ap (λ (z : ℕ). length (s.published z)) y.2) in
          let r = sound.published_parts y.0 i y.1 i_le in
          omega (
            arith,
            ap (λ (a : Cut). a d) (part_inner lists s.published x i e),
            ap (λ (z : ℕ). cut_at (s.published z) i d) y.2,
            r.2 d y.3,
            part_counts_in lists law s sound far y.0 d r.0 (omega (arith, parent_smaller lists law y.0 y.1.0, y.2)) y.1 y.3
                (omega (arith, r.1, sound.learnt_within y.0 y.1)),
          )
    ]

known_counts : (lists : Lists) → Lawful lists → (s : State) → Sound lists s → (y d : ℕ) → IsInner lists y → IsLeafOf lists y d →
    knowledge lists s y d ≤ s.counts d
known_counts lists law s sound y d inner leaf =
    let x = child_of lists law y d inner leaf in
    let at : knowledge lists s (parent lists x.0) d ≡ part lists s x.0 (s.learnt x.0) d = known_at lists law s.published s.learnt x.0 d x.1.0 x.3 in
    omega (
      arith,
      at,
      ap (λ (z : ℕ). knowledge lists s z d) x.2,
      part_counts_in lists law s sound d x.0 d (s.learnt x.0)
          (omega arith) x.1 x.3 (sound.learnt_within x.0 x.1),
    )

-- the changes of the leaves of a node
unfoldable pub weight : Lists → ℕ → ℕ
weight lists x = sum_to (nodes lists) (λ d. cond (is_leaf_of lists x d) (changes lists d) 0)

rises_at : (lists : Lists) (x : ℕ) (a b : Cut) → RisesOn lists x a b → (d : ℕ) × (1 ≤ d) × (d ≤ nodes lists) × IsLeafOf lists x d × (a d < b d)
unfolding is_same_on
rises_at lists x a b r =
    let at = all_to_fails (nodes lists) (λ (d : ℕ). cond (is_leaf_of lists x d) (eqb (a d) (b d)) true) r.not_same in
    elim (cases_Bool (is_leaf_of lists x at.0)) [
      | inl leaf ↦ (
        at.0,
        at.1,
        at.2,
        leaf,
        elim (cases_lt (a at.0) (b at.0)) [
          | inl lt ↦ lt
          | inr ge ↦ absurd (both_ways (eqb (a at.0) (b at.0))
              (sym (cond-true (is_leaf_of lists x at.0) (eqb (a at.0) (b at.0)) true leaf) ∙ at.3)
              (eq-eqb (a at.0) (b at.0) (omega (arith, ge, r.within at.0 leaf))))
        ],
      )
      | inr none ↦ absurd (both_ways true (sym (cond-false (is_leaf_of lists x at.0) (eqb (a at.0) (b at.0)) true none) ∙ at.3) refl)
    ]

part_sum : Lists → ℕ → Cut → ℕ
part_sum lists x a = sum_to (nodes lists) (λ d. cond (is_leaf_of lists x d) (a d) 0)

part_sum_at : (lists : Lists) (x : ℕ) (a b : Cut) (d : ℕ) → AtMostOn lists x a b →
    cond (is_leaf_of lists x d) (a d) 0 ≤ cond (is_leaf_of lists x d) (b d) 0
part_sum_at lists x a b d w =
    elim (cases_Bool (is_leaf_of lists x d)) [
      | inl e ↦ omega (arith, cond-true (is_leaf_of lists x d) (a d) 0 e, cond-true (is_leaf_of lists x d) (b d) 0 e, w d e)
      | inr e ↦ omega (arith, cond-false (is_leaf_of lists x d) (a d) 0 e, cond-false (is_leaf_of lists x d) (b d) 0 e)
    ]

part_sum_rises : (lists : Lists) (x : ℕ) (a b : Cut) → RisesOn lists x a b → part_sum lists x a < part_sum lists x b
unfolding part_sum
part_sum_rises lists x a b r =
    let at = rises_at lists x a b r in
    sum_lt (nodes lists) (λ d. cond (is_leaf_of lists x d) (a d) 0) (λ d. cond (is_leaf_of lists x d) (b d) 0)
    (λ d one le. part_sum_at lists x a b d r.within)
    at.0 at.1 at.2 (omega (arith, cond-true (is_leaf_of lists x at.0) (a at.0) 0 at.3, cond-true (is_leaf_of lists x at.0) (b at.0) 0 at.3, at.4))

number_sum : (lists : Lists) (s : State) → Sound lists s → (c : ℕ) → IsInner lists c → (i : ℕ) → i ≤ length (s.published c) →
    i ≤ part_sum lists c (cut_at (s.published c) i)
number_sum lists s sound c inner zero le = omega arith
number_sum lists s sound c inner (suc i) le =
    omega (
      arith,
      number_sum lists s sound c inner i (omega arith),
      part_sum_rises lists c (cut_at (s.published c) i) (cut_at (s.published c) (suc i)) (sound.published_rise c i (suc i) inner (omega arith) le),
    )

-- what an inner node published or cleared is no more than the changes of its leaves
pub list_weight : (lists : Lists) → Lawful lists → (s : State) → Sound lists s → (c : ℕ) → IsInner lists c →
    length (s.published c) ≤ weight lists c
unfolding weight part_sum
list_weight lists law s sound c inner =
    let len : ℕ = length (s.published c) in
    let top : Cut = cut_at (s.published c) len in
    omega (
      arith,
      number_sum lists s sound c inner len (omega arith),
      sum_le (nodes lists) (λ d. cond (is_leaf_of lists c d) (top d) 0) (λ d. cond (is_leaf_of lists c d) (changes lists d) 0) (λ d one le.
          part_sum_at lists c top (changes lists) d (λ e leaf.
          omega (
            arith,
            sound.published_known c inner e leaf,
            known_counts lists law s sound c e inner leaf,
            sound.counts_within e (leaf_of_parts lists c e leaf).0,
          ))),
    )

-- in a sound state a node's newest number is at most the number of changes of its leaves
pub newest_weight : (lists : Lists) → Lawful lists → (s : State) → Sound lists s → (x : ℕ) → IsNode lists x →
    newest_number_of lists s x ≤ weight lists x
unfolding weight
newest_weight lists law s sound x node =
    elim (cases_Bool (is_leaf lists x)) [
      | inl e ↦ omega (
        arith,
        newest_leaf lists s.counts s.published x e,
        sound.counts_within x e,
        cond-true (is_leaf_of lists x x) (changes lists x) 0 (leaf_of_itself lists law x e),
        sum_at (nodes lists) (λ d. cond (is_leaf_of lists x d) (changes lists d) 0) x node.0 node.1,
      )
      | inr e ↦ omega (arith, newest_inner lists s.counts s.published x e, list_weight lists law s sound x e)
    ]

-- a weight is at most the number of all changes
pub weight_small : (lists : Lists) (x : ℕ) → weight lists x ≤ change_total lists
unfolding weight
weight_small lists x =
    sum_le (nodes lists) (λ d. cond (is_leaf_of lists x d) (changes lists d) 0) (λ d. cond (is_leaf lists d) (changes lists d) 0) (λ d one le.
    elim (cases_Bool (is_leaf_of lists x d)) [
      | inl e ↦ omega (
        arith,
        cond-true (is_leaf_of lists x d) (changes lists d) 0 e,
        cond-true (is_leaf lists d) (changes lists d) 0 (leaf_of_parts lists x d e).0,
      )
      | inr e ↦ omega (arith, cond-false (is_leaf_of lists x d) (changes lists d) 0 e)
    ])

-- indices that rise from 1 are no more than the last
passed_count : (lists : Lists) (s : State) → Sound lists s → (x i : ℕ) → i < length (s.passed x) → i < get_or (s.passed x) i 0
passed_count lists s sound x zero lt =
    omega (arith, (sound.passed_within x (get_or (s.passed x) 0 0) (0, lt, get_or_default (s.passed x) 0 (get_or (s.passed x) 0 0) 0 lt)).0)
passed_count lists s sound x (suc i) lt = omega (arith, passed_count lists s sound x i (omega arith), sound.passed_rise x i (suc i) (omega arith) lt)

passed_length : (lists : Lists) (s : State) → Sound lists s → (x : ℕ) → length (s.passed x) ≤ clearings s
passed_length lists s sound x =
    elim (cases_eq (length (s.passed x)) 0) [
      | inl e ↦ omega arith
      | inr n ↦
          let m : ℕ = length (s.passed x) - 1 in
          let lt : m < length (s.passed x) = omega arith in
          let v : ℕ = get_or (s.passed x) m 0 in
          omega (arith, passed_count lists s sound x m lt, (sound.passed_within x v (m, lt, get_or_default (s.passed x) m v 0 lt)).1)
    ]

-- how many nodes stand at or above one

none_above : (lists : Lists) (fuel x : ℕ) → 1 ≤ x → is_below_in lists fuel x 0 ≡ false
none_above lists fuel x one =
    elim (cases_Bool (is_below_in lists fuel x 0)) [
      | inl e ↦ let r = up_from_below_in lists fuel x 0 e in absurd (omega (arith, r.1, up_at_zero lists r.0))
      | inr e ↦ e
    ]

sum_one : (n k : ℕ) → sum_to n (λ x. cond (eqb x k) 1 0) ≤ 1
unfolding sum_to
sum_one zero k = omega arith
sum_one (suc n) k =
    elim (cases_eq (suc n) k) [
      | inl e ↦ omega (arith, cond-true {A = ℕ} (eqb (suc n) k) 1 0 (eq-eqb (suc n) k e), sum_none n k (omega arith))
      | inr ne ↦ omega (arith, cond-false {A = ℕ} (eqb (suc n) k) 1 0 (ne_eqb (suc n) k ne), sum_one n k)
    ]
  where
    sum_none : (m j : ℕ) → m < j → sum_to m (λ x. cond (eqb x j) 1 0) ≡ 0
    sum_none zero j lt = refl
    sum_none (suc m) j lt = omega (arith, cond-false {A = ℕ} (eqb (suc m) j) 1 0 (ne_eqb (suc m) j (λ e. omega arith)), sum_none m j (omega arith))

split_below : (lists : Lists) (f x e : ℕ) → cond (is_below_in lists (suc f) x e) 1 0
    ≤ cond (eqb x e) 1 0 + cond (is_below_in lists f x (parent lists e)) 1 0
unfolding is_below_in
split_below lists f x e =
    elim (cases_Bool (eqb x e)) [
      | inl at ↦ omega (arith, cond-true {A = ℕ} (eqb x e) 1 0 at, cond_le (eqb x e || is_below_in lists f x (parent lists e)))
      | inr at ↦ omega (arith, ap {B = ℕ} (λ (b : Bool). cond (b || is_below_in lists f x (parent lists e)) 1 0) at)
    ]
  where
    cond_le : (b : Bool) → cond b 1 0 ≤ 1
    cond_le true = omega arith
    cond_le false = omega arith

path_more : (lists : Lists) (f e : ℕ) → (e ≡ 0 → ⊥) → cond (is_leaf lists e) 1 0 + path_depth_in lists (suc f) e
    ≡ 1 + path_depth_in lists f (parent lists e)
unfolding path_depth_in
path_more lists f e ne =
    let rest : ℕ = path_depth_in lists f (parent lists e) in
    elim (cases_Bool (is_leaf lists e)) [
      | inl at ↦ omega (
        arith,
        cond-false {A = ℕ} (eqb e 0) 0 (cond (is_leaf lists e) 0 1 + rest) (ne_eqb e 0 ne),
        cond-true {A = ℕ} (is_leaf lists e) 1 0 at,
        cond-true {A = ℕ} (is_leaf lists e) 0 1 at,
      )
      | inr at ↦ omega (
        arith,
        cond-false {A = ℕ} (eqb e 0) 0 (cond (is_leaf lists e) 0 1 + rest) (ne_eqb e 0 ne),
        cond-false {A = ℕ} (is_leaf lists e) 1 0 at,
        cond-false {A = ℕ} (is_leaf lists e) 0 1 at,
      )
    ]

above_count : (lists : Lists) → Lawful lists → (fuel d : ℕ) → d ≤ fuel → d ≤ nodes lists →
    sum_to (nodes lists) (λ x. cond (is_below_in lists fuel x d) 1 0) ≤ cond (is_leaf lists d) 1 0 + path_depth_in lists fuel d
above_count lists law zero d h le = omega (
  arith,
  sum_le (nodes lists) (λ x. cond (is_below_in lists zero x d) 1 0) (λ x. 0) (λ x one x_le.
      let e : d ≡ 0 = omega arith in
      omega (
        arith,
        ap {B = ℕ} (λ (z : ℕ). cond (is_below_in lists zero x z) 1 0) e,
        cond-false {A = ℕ} (is_below_in lists zero x 0) 1 0 (none_above lists zero x one),
      )),
  sum_same (nodes lists) 0,
)
above_count lists law (suc fuel) d h le =
    elim (cases_eq d 0) [
      | inl e ↦ omega (
        arith,
        sum_le (nodes lists) (λ x. cond (is_below_in lists (suc fuel) x d) 1 0) (λ x. 0) (λ x one x_le.
            omega (
              arith,
              ap {B = ℕ} (λ (z : ℕ). cond (is_below_in lists (suc fuel) x z) 1 0) e,
              cond-false {A = ℕ} (is_below_in lists (suc fuel) x 0) 1 0 (none_above lists (suc fuel) x one),
            )),
        sum_same (nodes lists) 0,
      )
      | inr n ↦
          let node : IsNode lists d = (omega arith, le) in
          let small : parent lists d < d = law.earlier d node in
          omega (
            arith,
            sum_le (nodes lists) (λ x. cond (is_below_in lists (suc fuel) x d) 1 0)
                (λ x. cond (eqb x d) 1 0 + cond (is_below_in lists fuel x (parent lists d)) 1 0) (λ x one x_le. split_below lists fuel x d),
            sum_add (nodes lists) (λ x. cond (eqb x d) 1 0) (λ x. cond (is_below_in lists fuel x (parent lists d)) 1 0),
            sum_one (nodes lists) d,
            above_count lists law fuel (parent lists d) (omega arith) (omega arith),
            cond-false {A = ℕ} (is_leaf lists (parent lists d)) 1 0 (law.inner d node),
            path_more lists fuel d n,
          )
    ]

-- at or above a leaf stand at most seven nodes
nodes_above : (lists : Lists) → Lawful lists → (d : ℕ) → IsLeaf lists d → sum_to (nodes lists) (λ x. cond (is_leaf_of lists x d) 1 0) ≤ 7
unfolding is_leaf_of is_below path_depth
nodes_above lists law d leaf =
    let node = leaf_node lists law d leaf in
    omega (
      arith,
      sum_le (nodes lists) (λ x. cond (is_leaf_of lists x d) 1 0) (λ x. cond (is_below_in lists d x d) 1 0)
          (λ x one le. omega (arith, ap {B = ℕ} (λ (b : Bool). cond (b && is_below_in lists d x d) 1 0) leaf)),
      above_count lists law d d (omega arith) node.1,
      cond-true {A = ℕ} (is_leaf lists d) 1 0 leaf,
      law.depth d node,
    )

leaf_weights : (lists : Lists) → Lawful lists → (d : ℕ) → sum_to (nodes lists) (λ x. cond (is_leaf_of lists x d) (changes lists d) 0)
    ≤ 7 * cond (is_leaf lists d) (changes lists d) 0
leaf_weights lists law d =
    elim (cases_Bool (is_leaf lists d)) [
      | inl leaf ↦ omega (
        arith,
        sum_times (nodes lists) (λ x. is_leaf_of lists x d) (changes lists d),
        mul-le-mul_right (changes lists d) (nodes_above lists law d leaf),
        cond-true (is_leaf lists d) (changes lists d) 0 leaf,
      )
      | inr none ↦ omega (
        arith,
        sum_le (nodes lists) (λ x. cond (is_leaf_of lists x d) (changes lists d) 0) (λ x. 0) (λ x one le.
            elim (cases_Bool (is_leaf_of lists x d)) [
              | inl e ↦ absurd (both_ways (is_leaf lists d) none (leaf_of_parts lists x d e).0)
              | inr e ↦ omega (arith, cond-false (is_leaf_of lists x d) (changes lists d) 0 e)
            ]),
        sum_same (nodes lists) 0,
      )
    ]

-- each change counts in at most seven nodes
all_weights : (lists : Lists) → Lawful lists → sum_to (nodes lists) (weight lists) ≤ 7 * change_total lists
unfolding weight
all_weights lists law =
    omega (
      arith,
      sum_swap (nodes lists) (nodes lists) (λ x d. cond (is_leaf_of lists x d) (changes lists d) 0),
      sum_le (nodes lists) (λ d. sum_to (nodes lists) (λ x. cond (is_leaf_of lists x d) (changes lists d) 0))
          (λ d. 7 * cond (is_leaf lists d) (changes lists d) 0) (λ d one le. leaf_weights lists law d),
      sum_scaled (nodes lists) 7 (λ d. cond (is_leaf lists d) (changes lists d) 0),
    )

-- what is counted of a sound state is at most the bound on moves
pub counted_bound : (lists : Lists) → Lawful lists → (s : State) → Sound lists s → potential lists s ≤ bound lists
unfolding potential potential_at
counted_bound lists law s sound =
    let n : ℕ = nodes lists in
    let c : ℕ = change_total lists in
    let j : ℕ = clearings s in
    let j_le : j ≤ c = omega (arith, list_weight lists law s sound 0 (leaf_zero lists), weight_small lists 0) in
    let each : sum_to n (potential_at lists s) ≤ sum_to n (λ x. (weight lists x + weight lists x) + j) =
    sum_le n (potential_at lists s) (λ x. (weight lists x + weight lists x) + j) (λ x one le.
    omega (arith, newest_weight lists law s sound x (one, le), sound.learnt_within x (one, le), passed_length lists s sound x)) in
    let parted : sum_to n (λ x. (weight lists x + weight lists x) + j) ≡ (sum_to n (weight lists) + sum_to n (weight lists)) + n * j =
    sum_add n (λ x. weight lists x + weight lists x) (λ x. j)
    ∙ ap (λ (k : ℕ). k + sum_to n (λ x. j)) (sum_add n (weight lists) (weight lists))
    ∙ ap (λ (k : ℕ). (sum_to n (weight lists) + sum_to n (weight lists)) + k) (sum_same n j) in
    omega (arith, each, parted, all_weights lists law, mul-le-mul_left n j_le, j_le, sound.closed_within)

-- a legal journal has at most as many moves as the bound
pub journal_bound : (lists : Lists) → Lawful lists → (journal : List Move) → LegalJournal lists journal → length journal ≤ bound lists
journal_bound lists law journal legal =
    omega (
      arith,
      counted_journal lists law journal start legal,
      counted_bound lists law (after lists journal) (sound_after_from lists law journal start (sound_start lists law) legal),
    )

-- so is every number of a node
pub newest_small : (lists : Lists) → Lawful lists → (s : State) → Sound lists s → (x : ℕ) → IsNode lists x →
    newest_number_of lists s x ≤ change_total lists
newest_small lists law s sound x node = omega (arith, newest_weight lists law s sound x node, weight_small lists x)

-- each legal move raises what is counted, with state and move before the premises
pub move_counts : (lists : Lists) (s : State) (m : Move) → Lawful lists → Legal lists s m → potential lists s < potential lists (step lists s m)
move_counts lists s m law legal = counted_step lists law s m legal

-- what is counted of a sound state is at most the bound, with the state before the premises
pub counts_end : (lists : Lists) (s : State) → Lawful lists → Sound lists s → potential lists s ≤ bound lists
counts_end lists s law sound = counted_bound lists law s sound

-- no newest number of a node is above the number of all changes, with state and node before the premises
pub newest_end : (lists : Lists) (s : State) (x : ℕ) → Lawful lists → Sound lists s → IsNode lists x →
    newest_number_of lists s x ≤ change_total lists
newest_end lists s x law sound node = newest_small lists law s sound x node

-- the bound of a journal and what its proof rests on
pub ruleset bound_laws = (journal_bound, move_counts, counts_end, newest_end)

-- What follows from soundness, and facts on lists of indices.
use Rattle.std.proofs.Common.{◌≡◌, ℕ, zero, suc, ◌+◌, ◌-◌, ◌<◌, ◌≤◌, ◌⊎◌, inl, inr, List, [], ◌∷◌, ◌++◌, length}
use Rattle.std.proofs.Common.{get_or, refl, sym, ◌∙◌, ap, subst, arith}
use Rattle.std.proofs.lemmas.Bool.{cases_eq, cases_lt, cases_Bool}
use Rattle.std.proofs.lemmas.List.{get_or_append_left, get_or_push, length_push, get_or_default}
use Rattle.std.specs.List.{Contains}
use Rattle.pm_market.specs.Lists.{Lists, phases, parent, is_leaf, changes, IsNode, IsLeaf, IsInner, Lawful, end_count}
use Rattle.pm_market.specs.State.{State, update, SameOn, AtMostOn, cut_at, greatest_number}
use Rattle.pm_market.specs.State.{last_of, newest_number_of, part, number, last_index, clearings, cleared_cut}
use Rattle.pm_base.specs.Cuts.{Cut}
use Rattle.pm_market.specs.Moves.{Reached}
use Rattle.pm_market.specs.Sound.{Sound}
use Rattle.pm_market.proofs.Tree.{leaf_of_parts, leaf_of_parent, leaf_of_auctioneer, leaf_zero}
use Rattle.pm_market.proofs.Cuts.{updated_same, updated_other, not_same, pushed, newest_inner, part_leaf, part_inner, greatest_le, greatest_from, greatest_same}
use Rattle.pm_market.proofs.Cuts.{number_inner}

-- at the end of phase 0, before the first phase, no change is made
pub end_zero : (lists : Lists) (d : ℕ) → end_count lists 0 d ≡ 0
unfolding end_count
end_zero lists zero = refl
end_zero lists (suc d) = refl

end_up : (lists : Lists) → Lawful lists → (k p d : ℕ) → IsLeaf lists d → k + p ≡ phases lists →
    end_count lists p d ≤ end_count lists (phases lists) d
end_up lists law zero p d leaf e = let same : p ≡ phases lists = omega arith in omega (arith, ap (λ (q : ℕ). end_count lists q d) same)
end_up lists law (suc k) p d leaf e = let more : k + (p + 1) ≡ phases lists = omega arith in let below : p < phases lists = omega arith in
    omega (arith, law.ends_rise p d leaf below, end_up lists law k (p + 1) d leaf more)

-- at the end of each phase a device has made at most as many changes as it makes in all
pub end_within : (lists : Lists) → Lawful lists → (p d : ℕ) → IsLeaf lists d → p ≤ phases lists → end_count lists p d ≤ changes lists d
end_within lists law p d leaf h = omega (arith, end_up lists law (phases lists - p) p d leaf (omega arith), law.ends_last d leaf)

-- a function with one value replaced has the new value there, and the old value everywhere else
pub updated_at : {A : Type 0} → (f : ℕ → A) (x : ℕ) (v : A) (y : ℕ) → ((y ≡ x) × (update f x v y ≡ v))
    ⊎ ((y ≡ x → ⊥) × (update f x v y ≡ f y))
updated_at f x v y =
    elim (cases_eq y x) [
      | inl e ↦ inl (e, ap (λ z. update f x v z) e ∙ updated_same f x v)
      | inr n ↦ inr (n, updated_other f x v y n)
    ]

-- lists of indices

-- what stands in a list with one more at its end stood there before, or is the one more
pub contains_push : (l : List ℕ) (v k : ℕ) → Contains (l ++ v ∷ []) k → Contains l k ⊎ (k ≡ v)
contains_push l v k c =
    elim (cases_lt c.0 (length l)) [
      | inl lt ↦ inl (c.0, lt, sym (get_or_append_left l (v ∷ []) k c.0 lt) ∙ c.2)
      | inr ge ↦ let at : length l ≡ c.0 = omega (arith, length_push l v, c.1) in inr (sym (sym (get_or_push l v k c.0 at) ∙ c.2))
    ]

-- what stands in a list of indices stands there still with one more at its end
pub contains_more : (l : List ℕ) (v k : ℕ) → Contains l k → Contains (l ++ v ∷ []) k
contains_more l v k c = (c.0, omega (arith, length_push l v, c.1), get_or_append_left l (v ∷ []) k c.0 c.1 ∙ c.2)

-- the index that is added at the end of a list stands in it
pub contains_last : (l : List ℕ) (v : ℕ) → Contains (l ++ v ∷ []) v
contains_last l v = (length l, omega (arith, length_push l v), get_or_push l v v (length l) refl)

-- what stands in the list of a node stands there still when an index joins the list of some node
pub pushed_contains : (p : ℕ → List ℕ) (x v y k : ℕ) → Contains (p y) k → Contains (pushed p x v y) k
pushed_contains p x v y k c =
    elim (updated_at p x (p x ++ v ∷ []) y) [
      | inl w ↦ subst (λ (l : List ℕ). Contains l k) (sym w.1) (contains_more (p x) v k (subst (λ (z : ℕ). Contains (p z) k) w.0 c))
      | inr w ↦ subst (λ (l : List ℕ). Contains l k) (sym w.1) c
    ]

-- what stands in a node's list once an index joined x's list stood there before, or is that index at x
pub pushed_contains_cases : (p : ℕ → List ℕ) (x v y k : ℕ) → Contains (pushed p x v y) k → Contains (p y) k ⊎ ((y ≡ x) × (k ≡ v))
pushed_contains_cases p x v y k c =
    elim (updated_at p x (p x ++ v ∷ []) y) [
      | inl w ↦ elim (contains_push (p x) v k (subst (λ (l : List ℕ). Contains l k) w.1 c)) [
        | inl old ↦ inl (subst (λ (z : ℕ). Contains (p z) k) (sym w.0) old)
        | inr e ↦ inr (w.0, e)
      ]
      | inr w ↦ inl (subst (λ (l : List ℕ). Contains l k) w.1 c)
    ]

last_at : (l : List ℕ) (m : ℕ) → length l ≡ suc m → last_of l ≡ get_or l m 0
unfolding last_of
last_at l m e = ap (λ (n : ℕ). get_or (0 ∷ l) n 0) e

last_empty : (l : List ℕ) → length l ≡ 0 → last_of l ≡ 0
unfolding last_of
last_empty l e = ap (λ (n : ℕ). get_or (0 ∷ l) n 0) e

-- the last index of a list is the one that was added at its end
pub last_push : (l : List ℕ) (v : ℕ) → last_of (l ++ v ∷ []) ≡ v
last_push l v = last_at (l ++ v ∷ []) (length l) (omega (arith, length_push l v)) ∙ get_or_push l v 0 (length l) refl

-- the last index is 0, or stands in the list
pub last_cases : (l : List ℕ) → ((length l ≡ 0) × (last_of l ≡ 0)) ⊎ Contains l (last_of l)
last_cases l =
    elim (cases_eq (length l) 0) [
      | inl e ↦ inl (e, last_empty l e)
      | inr n ↦ let m : ℕ = length l - 1 in let e : length l ≡ suc m = omega arith in let lt : m < length l = omega arith in
          inr (m, lt, get_or_default l m (last_of l) 0 lt ∙ sym (last_at l m e))
    ]

-- in a list of indices that rise strictly each is at most the last
pub last_most : (l : List ℕ) → ((i j : ℕ) → i < j → j < length l → get_or l i 0 < get_or l j 0) → (i : ℕ) → i < length l →
    get_or l i 0 ≤ last_of l
last_most l rise i lt =
    let m : ℕ = length l - 1 in let e : length l ≡ suc m = omega arith in
    elim (cases_eq i m) [
      | inl same ↦ omega (arith, last_at l m e, ap (λ (k : ℕ). get_or l k 0) same)
      | inr n ↦ omega (arith, last_at l m e, rise i m (omega arith) (omega arith))
    ]

-- an index that came is one of the clearings
pub reached_within : (lists : Lists) (s : State) → Sound lists s → (y j : ℕ) → Reached s y j → (1 ≤ j) × (j ≤ clearings s)
reached_within lists s sound y j came =
    elim came [
      | inl w ↦ (w.1, w.2)
      | inr c ↦ sound.passed_within y j c
    ]

-- in a sound state the index passed to a node last is at most the number of clearings
pub last_within : (lists : Lists) (s : State) → Sound lists s → (x : ℕ) → last_index s x ≤ clearings s
last_within lists s sound x =
    elim (last_cases (s.passed x)) [
      | inl w ↦ omega (arith, w.1)
      | inr c ↦ (sound.passed_within x (last_index s x) c).1
    ]

-- cuts

-- of two cuts that a node published or cleared the earlier is at most the later on its leaves
pub rise_within : (lists : Lists) (s : State) → Sound lists s → (c i j : ℕ) → IsInner lists c → i ≤ j → j ≤ length (s.published c) →
    AtMostOn lists c (cut_at (s.published c) i) (cut_at (s.published c) j)
rise_within lists s sound c i j inner h le d leaf =
    elim (cases_eq i j) [
      | inl e ↦ omega (arith, ap (λ (k : ℕ). cut_at (s.published c) k d) e)
      | inr n ↦ (sound.published_rise c i j inner (omega arith) le).within d leaf
    ]

-- the number that was learnt of a concentrator is at most the number of cuts that it published
pub learnt_of_inner : (lists : Lists) (s : State) → Sound lists s → (x : ℕ) → IsNode lists x → IsInner lists x →
    s.learnt x ≤ length (s.published x)
learnt_of_inner lists s sound x node inner = omega (arith, sound.learnt_within x node, newest_inner lists s.counts s.published x inner)

-- on a node's leaves the part of an earlier number is at most that of a later one, up to the newest
pub part_within : (lists : Lists) (s : State) → Sound lists s → (x i j : ℕ) → i ≤ j → j ≤ newest_number_of lists s x →
    AtMostOn lists x (part lists s x i) (part lists s x j)
part_within lists s sound x i j h le d leaf =
    elim (cases_Bool (is_leaf lists x)) [
      | inl e ↦ omega (arith, part_leaf lists s.published x i d e, part_leaf lists s.published x j d e)
      | inr e ↦ omega (
        arith,
        ap (λ (a : Cut). a d) (part_inner lists s.published x i e),
        ap (λ (a : Cut). a d) (part_inner lists s.published x j e),
        rise_within lists s sound x i j e h (omega (arith, newest_inner lists s.counts s.published x e)) d leaf,
      )
    ]

-- on the leaves of a node each clearing is one of the node's parts
clearing_part_in : (lists : Lists) → Lawful lists → (s : State) → Sound lists s → (bound x j : ℕ) → x ≤ bound → IsNode lists x →
    j ≤ clearings s →
    (n : ℕ) × (n ≤ s.learnt x) × SameOn lists x (cleared_cut s j) (part lists s x n)
clearing_part_in lists law s sound zero x j h node le = absurd (omega arith)
clearing_part_in lists law s sound (suc bound) x j h node le =
    elim (cases_eq (parent lists x) 0) [
      | inl e ↦ let r = sound.published_parts x j node (subst (λ (z : ℕ). j ≤ length (s.published z)) (sym e) le) in
          (r.0, r.1, λ d leaf. ap (λ (z : ℕ). cut_at (s.published z) j d) (sym e) ∙ r.2 d leaf)
      | inr n ↦
          let c : ℕ = parent lists x in
          let c_node : IsNode lists c = (omega arith, omega (arith, law.earlier x node, node.1)) in
          let c_inner : IsInner lists c = law.inner x node in
          let up = clearing_part_in lists law s sound bound c j (omega (arith, law.earlier x node)) c_node le in
          let r = sound.published_parts x up.0 node (omega (arith, up.1, learnt_of_inner lists s sound c c_node c_inner)) in (
            r.0,
            r.1,
            λ d leaf. up.2 d (leaf_of_parent lists law x d leaf)
                ∙ ap (λ (a : Cut). a d) (part_inner lists s.published c up.0 c_inner) ∙ r.2 d leaf,
          )
    ]

-- on the leaves of a node each clearing is the node's part of a number up to the one learnt last
pub clearing_part : (lists : Lists) → Lawful lists → (s : State) → Sound lists s → (x j : ℕ) → IsNode lists x → j ≤ clearings s →
    (n : ℕ) × (n ≤ s.learnt x) × SameOn lists x (cleared_cut s j) (part lists s x n)
clearing_part lists law s sound x j node le = clearing_part_in lists law s sound x x j (omega arith) node le

-- of two clearings the cut of the earlier is within that of the later, and so is its number at a concentrator
pub cleared_within : (lists : Lists) → Lawful lists → (s : State) → Sound lists s → (i j : ℕ) → i ≤ j → j ≤ clearings s → (d : ℕ) →
    IsLeaf lists d → cleared_cut s i d ≤ cleared_cut s j d
cleared_within lists law s sound i j h le d leaf = rise_within lists s sound 0 i j (leaf_zero lists) h le d (leaf_of_auctioneer lists law d leaf)

-- of two clearings the later has no smaller greatest number in a concentrator's list of published cuts
pub number_rises : (lists : Lists) → Lawful lists → (s : State) → Sound lists s → (c i j : ℕ) → IsNode lists c → IsInner lists c →
    i ≤ j → j ≤ clearings s →
    greatest_number lists (s.published c) c (cleared_cut s i) (length (s.published c)) ≤ greatest_number lists (s.published c) c
    (cleared_cut s j) (length (s.published c))
number_rises lists law s sound c i j node inner h le =
    let m : ℕ = greatest_number lists (s.published c) c (cleared_cut s i) (length (s.published c)) in
    elim (greatest_same lists law (s.published c) c (cleared_cut s i) (length (s.published c))) [
      | inl e ↦ omega arith
      | inr same ↦
          let r = clearing_part lists law s sound c j node le in
          let n : ℕ = r.0 in
          let n_le : n ≤ length (s.published c) = omega (arith, r.1, learnt_of_inner lists s sound c node inner) in
          let at : SameOn lists c (cut_at (s.published c) n) (cleared_cut s j) =
          λ d leaf. sym (r.2 d leaf ∙ ap (λ (a : Cut). a d) (part_inner lists s.published c n inner)) in
          elim (cases_lt n m) [
            | inl lt ↦
                let rise = sound.published_rise c n m inner lt (greatest_le lists (s.published c) c (cleared_cut s i) (length (s.published c))) in
                absurd (not_same lists c (cut_at (s.published c) n) (cut_at (s.published c) m) rise.not_same (λ d leaf.
                omega (arith, rise.within d leaf, same d leaf, at d leaf, cleared_within lists law s sound i j h le d (leaf_of_parts lists c d leaf).0)))
            | inr ge ↦ let top = greatest_from lists (s.published c) c (cleared_cut s j) (length (s.published c)) n n_le at in omega arith
          ]
    ]

-- the window by the list alone
pub window_of : (lists : Lists) (s : State) (c : ℕ) (cut : Cut) → IsInner lists c →
    newest_number_of lists s c - number lists s c cut ≡ length (s.published c) - greatest_number lists (s.published c) c cut (length (s.published c))
window_of lists s c cut inner = omega (arith, newest_inner lists s.counts s.published c inner, number_inner lists s.published c cut inner)

-- what stands among the indices passed to a node is at most the last
pub contains_within : (lists : Lists) (s : State) → Sound lists s → (x i : ℕ) → Contains (s.passed x) i → i ≤ last_index s x
contains_within lists s sound x i c =
    omega (arith, last_most (s.passed x) (λ a b lt le. sound.passed_rise x a b lt le) c.0 c.1, get_or_default (s.passed x) c.0 0 i c.1 ∙ c.2)

-- an index that came to a concentrator is at most the last passed to it
pub came_last : (lists : Lists) (s : State) → Sound lists s → (y i : ℕ) → 1 ≤ y → Reached s y i → i ≤ last_index s y
came_last lists s sound y i one came =
    elim came [
      | inl w ↦ absurd (omega (arith, w.0))
      | inr among ↦ contains_within lists s sound y i among
    ]

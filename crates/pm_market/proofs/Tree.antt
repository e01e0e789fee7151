-- The tree of lawful lists: who stands above whom.
use Rattle.std.proofs.Common.{◌≡◌, ℕ, zero, suc, ◌-◌, ◌<◌, ◌≤◌, Bool, true, false, cond, eqb, inl, inr, [], ◌∷◌, length, refl, sym}
use Rattle.std.proofs.Common.{◌∙◌, ap, subst, arith}
use Rattle.std.proofs.Common.{Option, Some, ◌==◌}
use Rattle.std.specs.Prelude.{unwrap_or}
use Rattle.std.specs.List.{find}
use Rattle.std.proofs.lemmas.Bool.{cases_eq, cases_Bool, eqb-true, eq-eqb, ne_eqb, or_cases, or_left, or_right, and_parts, and_from, cond-true, cond-false}
use Rattle.std.proofs.lemmas.Bool.{both_ways}
use Rattle.std.proofs.lemmas.List.{get_or_past}
use Rattle.pm_market.specs.Lists.{Lists, nodes, parent, is_leaf, IsNode, IsLeaf, IsInner, IsLeafOf, is_below_in, is_below, is_leaf_of, way_up}
use Rattle.pm_market.specs.Lists.{child_at_or_above, Lawful}

-- the parent of the auctioneer is the auctioneer
pub parent_zero : (lists : Lists) → parent lists 0 ≡ 0
unfolding parent
parent_zero lists = refl

-- the auctioneer is no device
pub leaf_zero : (lists : Lists) → is_leaf lists 0 ≡ false
unfolding is_leaf
leaf_zero lists = refl

-- a number past the last node has parent 0
pub parent_past : (lists : Lists) (d : ℕ) → nodes lists < d → parent lists d ≡ 0
unfolding parent
parent_past lists d h = get_or_past (0 ∷ lists.parents) d 0 h

-- a number past the end of the list of leaves is no device
pub leaf_past : (lists : Lists) (d : ℕ) → length lists.leaves < d → is_leaf lists d ≡ false
unfolding is_leaf
leaf_past lists d h = get_or_past (false ∷ lists.leaves) d false h

-- in lawful lists each device is a node
pub leaf_node : (lists : Lists) → Lawful lists → (d : ℕ) → IsLeaf lists d → IsNode lists d
leaf_node lists law d leaf = (
  elim (cases_eq d 0) [
    | inl e ↦ absurd (both_ways (is_leaf lists d) (ap (is_leaf lists) e ∙ leaf_zero lists) leaf)
    | inr n ↦ omega arith
  ],
  elim (cases_Bool (Rattle.std.proofs.Common.leb d (nodes lists))) [
    | inl e ↦ Rattle.std.proofs.lemmas.Bool.leb-true d (nodes lists) e
    | inr e ↦ let far : length lists.leaves < d = omega
        (arith, law.leaves, Rattle.std.proofs.lemmas.Bool.leb-false d (nodes lists) e) in absurd (both_ways (is_leaf lists d) (leaf_past lists d far) leaf)
  ],
)

-- in lawful lists the parent of each number above 0 is smaller than it
pub parent_smaller : (lists : Lists) → Lawful lists → (d : ℕ) → 1 ≤ d → parent lists d < d
parent_smaller lists law d one =
    elim (cases_Bool (Rattle.std.proofs.Common.leb d (nodes lists))) [
      | inl e ↦ law.earlier d (one, Rattle.std.proofs.lemmas.Bool.leb-true d (nodes lists) e)
      | inr e ↦ let far : nodes lists < d = Rattle.std.proofs.lemmas.Bool.leb-false d (nodes lists) e in omega (arith, parent_past lists d far)
    ]

-- the node k levels above d
pub up : Lists → ℕ → ℕ → ℕ
up lists zero d = d
up lists (suc k) d = up lists k (parent lists d)

-- any number of levels above the auctioneer is the auctioneer
pub up_at_zero : (lists : Lists) (k : ℕ) → up lists k 0 ≡ 0
unfolding up
up_at_zero lists zero = refl
up_at_zero lists (suc k) = ap (up lists k) (parent_zero lists) ∙ up_at_zero lists k

up_more : (lists : Lists) (k d : ℕ) → up lists (suc k) d ≡ parent lists (up lists k d)
unfolding up
up_more lists zero d = refl
up_more lists (suc k) d = up_more lists k (parent lists d)

-- in lawful lists the number of the node k levels above d is at most d
pub up_le : (lists : Lists) → Lawful lists → (k d : ℕ) → up lists k d ≤ d
unfolding up
up_le lists law zero d = omega arith
up_le lists law (suc k) d =
    elim (cases_eq d 0) [
      | inl e ↦ omega (arith, ap (up lists (suc k)) e ∙ up_at_zero lists (suc k))
      | inr n ↦ let one : 1 ≤ d = omega arith in omega (arith, up_le lists law k (parent lists d), parent_smaller lists law d one)
    ]

up_all : (lists : Lists) → Lawful lists → (k d : ℕ) → d ≤ k → up lists k d ≡ 0
unfolding up
up_all lists law zero d h = omega arith
up_all lists law (suc k) d h =
    elim (cases_eq d 0) [
      | inl e ↦ ap (up lists (suc k)) e ∙ up_at_zero lists (suc k)
      | inr n ↦ let one : 1 ≤ d = omega arith in let small : parent lists d ≤ k =
          omega (arith, parent_smaller lists law d one) in up_all lists law k (parent lists d) small
    ]

below_in_from_up : (lists : Lists) → Lawful lists → (fuel k d : ℕ) → d ≤ fuel → is_below_in lists fuel (up lists k d) d ≡ true
unfolding up is_below_in
below_in_from_up lists law zero k d h =
    let e : d ≡ 0 = omega arith in
    eq-eqb (up lists k d) d (ap (up lists k) e ∙ up_at_zero lists k ∙ sym e)
below_in_from_up lists law (suc fuel) zero d h = or_left _ _ (eq-eqb d d refl)
below_in_from_up lists law (suc fuel) (suc k) d h =
    elim (cases_eq d 0) [
      | inl e ↦ or_left _ _ (eq-eqb (up lists (suc k) d) d (ap (up lists (suc k)) e ∙ up_at_zero lists (suc k) ∙ sym e))
      | inr n ↦ let one : 1 ≤ d = omega arith in let small : parent lists d ≤ fuel =
          omega (arith, parent_smaller lists law d one) in or_right _ _ (below_in_from_up lists law fuel k (parent lists d) small)
    ]

-- where x is found at or above d within some levels, it is some number of levels above d
pub up_from_below_in : (lists : Lists) (fuel x d : ℕ) → is_below_in lists fuel x d ≡ true → (k : ℕ) × (up lists k d ≡ x)
unfolding up is_below_in
up_from_below_in lists zero x d h = (0, sym (eqb-true x d h))
up_from_below_in lists (suc fuel) x d h =
    elim (or_cases (eqb x d) (is_below_in lists fuel x (parent lists d)) h) [
      | inl e ↦ (0, sym (eqb-true x d e))
      | inr e ↦ let r = up_from_below_in lists fuel x (parent lists d) e in (suc r.0, r.1)
    ]

-- in lawful lists d is the node k levels above it or stands below that node
pub below_from_up : (lists : Lists) → Lawful lists → (k d : ℕ) → is_below lists (up lists k d) d ≡ true
unfolding is_below
below_from_up lists law k d = below_in_from_up lists law d k d (omega arith)

-- where d is x or stands below x, x is some number of levels above d
pub up_from_below : (lists : Lists) (x d : ℕ) → is_below lists x d ≡ true → (k : ℕ) × (up lists k d ≡ x)
unfolding is_below
up_from_below lists x d h = up_from_below_in lists d x d h

-- d stands at or below itself
pub below_itself : (lists : Lists) → Lawful lists → (d : ℕ) → is_below lists d d ≡ true
unfolding up
below_itself lists law d = below_from_up lists law 0 d

-- what is x or stands below x stands below the parent of x
pub below_parent : (lists : Lists) → Lawful lists → (x d : ℕ) → is_below lists x d ≡ true → is_below lists (parent lists x) d ≡ true
below_parent lists law x d below =
    let at = up_from_below lists x d below in
    subst (λ (y : ℕ). is_below lists y d ≡ true) (up_more lists at.0 d ∙ ap (parent lists) at.1) (below_from_up lists law (suc at.0) d)

-- the leaves of a node

leaf_of : (lists : Lists) (x d : ℕ) → IsLeaf lists d → is_below lists x d ≡ true → IsLeafOf lists x d
unfolding is_leaf_of
leaf_of lists x d leaf below = and_from (is_leaf lists d) (is_below lists x d) leaf below

-- a leaf of x is a device, and is x or stands below x
pub leaf_of_parts : (lists : Lists) (x d : ℕ) → IsLeafOf lists x d → (is_leaf lists d ≡ true) × (is_below lists x d ≡ true)
unfolding is_leaf_of
leaf_of_parts lists x d h = and_parts (is_leaf lists d) (is_below lists x d) h

-- a device is a leaf of itself
pub leaf_of_itself : (lists : Lists) → Lawful lists → (d : ℕ) → IsLeaf lists d → IsLeafOf lists d d
unfolding up
leaf_of_itself lists law d leaf = leaf_of lists d d leaf (below_from_up lists law 0 d)

-- a leaf of a node is a leaf of the node's parent
pub leaf_of_parent : (lists : Lists) → Lawful lists → (x d : ℕ) → IsLeafOf lists x d → IsLeafOf lists (parent lists x) d
leaf_of_parent lists law x d h =
    let parts = leaf_of_parts lists x d h in
    let r = up_from_below lists x d parts.1 in
    let e : up lists (suc r.0) d ≡ parent lists x = up_more lists r.0 d ∙ ap (parent lists) r.1 in
    leaf_of lists (parent lists x) d parts.0 (subst (λ (y : ℕ). is_below lists y d ≡ true) e (below_from_up lists law (suc r.0) d))

-- each device is a leaf of the auctioneer
pub leaf_of_auctioneer : (lists : Lists) → Lawful lists → (d : ℕ) → IsLeaf lists d → IsLeafOf lists 0 d
leaf_of_auctioneer lists law d leaf =
    leaf_of lists 0 d leaf (subst (λ (y : ℕ). is_below lists y d ≡ true) (up_all lists law d d (omega arith)) (below_from_up lists law d d))

-- a leaf has no leaf but itself
leaf_above : (lists : Lists) → Lawful lists → (k x d : ℕ) → IsLeaf lists x → IsLeaf lists d → up lists k d ≡ x → d ≡ x
unfolding up
leaf_above lists law zero x d leaf_x leaf_d e = e
leaf_above lists law (suc k) x d leaf_x leaf_d e =
    let z : ℕ = up lists k d in
    let ez : parent lists z ≡ x = sym (up_more lists k d) ∙ e in
    elim (cases_eq z 0) [
      | inl e0 ↦ absurd (both_ways (is_leaf lists x) (ap (is_leaf lists) (sym ez ∙ ap (parent lists) e0 ∙ parent_zero lists) ∙ leaf_zero lists) leaf_x)
      | inr n ↦ let node : IsNode lists z = (omega arith, omega (arith, up_le lists law k d, (leaf_node lists law d leaf_d).1)) in
          absurd (both_ways (is_leaf lists x) (ap (is_leaf lists) (sym ez) ∙ law.inner z node) leaf_x)
    ]

-- a leaf of a device is the device itself
pub leaf_of_leaf : (lists : Lists) → Lawful lists → (x d : ℕ) → IsLeaf lists x → IsLeafOf lists x d → d ≡ x
leaf_of_leaf lists law x d leaf h =
    let parts = leaf_of_parts lists x d h in
    let r = up_from_below lists x d parts.1 in
    leaf_above lists law r.0 x d leaf parts.0 r.1

-- the child of y at or above d, among so many nodes on the way up
unfoldable pub toward : Lists → ℕ → ℕ → ℕ → ℕ
toward lists count y d = unwrap_or (find (λ x. parent lists x == y) (way_up lists count d)) 0

-- over the first d nodes from d up the search gives the child of y at or above d
pub toward_all : (lists : Lists) (y d : ℕ) → toward lists d y d ≡ child_at_or_above lists y d
unfolding toward child_at_or_above
toward_all lists y d = refl

-- a search over no node gives 0
pub toward-none : (lists : Lists) (y d : ℕ) → toward lists 0 y d ≡ 0
unfolding toward way_up
toward-none lists y d = refl

unwrap_or-cond : (b : Bool) (x none : ℕ) (rest : Option ℕ) → unwrap_or (cond b (Some x) rest) none ≡ cond b x (unwrap_or rest none)
unwrap_or-cond true x none rest = refl
unwrap_or-cond false x none rest = refl

-- a search over one more node gives d where d's parent is y, and else goes on at d's parent
pub toward-suc : (lists : Lists) (count y d : ℕ) →
    toward lists (suc count) y d ≡ cond (eqb (parent lists d) y) d (toward lists count y (parent lists d))
unfolding toward way_up
toward-suc lists count y d = unwrap_or-cond (eqb (parent lists d) y) d 0 (find (λ x. parent lists x == y) (way_up lists count (parent lists d)))

toward_is : (lists : Lists) → Lawful lists → (fuel k d y x : ℕ) → d ≤ fuel → 1 ≤ x → up lists k d ≡ x → parent lists x ≡ y →
    toward lists fuel y d ≡ x
unfolding up
toward_is lists law zero k d y x h one e ep =
    let e0 : d ≡ 0 = omega arith in
    absurd (omega (arith, sym e ∙ ap (up lists k) e0 ∙ up_at_zero lists k))
toward_is lists law (suc fuel) zero d y x h one e ep =
    toward-suc lists fuel y d
    ∙ cond-true (eqb (parent lists d) y) d (toward lists fuel y (parent lists d)) (eq-eqb (parent lists d) y (ap (parent lists) e ∙ ep)) ∙ e
toward_is lists law (suc fuel) (suc k) d y x h one e ep =
    elim (cases_eq (parent lists d) y) [
      | inl same ↦ absurd (omega (arith, up_le lists law k (parent lists d), parent_smaller lists law x one))
      | inr n ↦ elim (cases_eq d 0) [
        | inl e0 ↦ absurd (omega (arith, sym e ∙ ap (up lists (suc k)) e0 ∙ up_at_zero lists (suc k)))
        | inr n0 ↦
            let d_one : 1 ≤ d = omega arith in
            let small : parent lists d ≤ fuel = omega (arith, parent_smaller lists law d d_one) in
            toward-suc lists fuel y d
            ∙ cond-false (eqb (parent lists d) y) d (toward lists fuel y (parent lists d)) (ne_eqb (parent lists d) y n)
            ∙ toward_is lists law fuel k (parent lists d) y x small one e ep
      ]
    ]

-- of a leaf d of x, above 0, the child of x's parent at or above d is x
pub child_at_or_above_is : (lists : Lists) → Lawful lists → (x d : ℕ) → 1 ≤ x → IsLeafOf lists x d →
    child_at_or_above lists (parent lists x) d ≡ x
child_at_or_above_is lists law x d one h =
    let r = up_from_below lists x d (leaf_of_parts lists x d h).1 in
    sym (toward_all lists (parent lists x) d) ∙ toward_is lists law d r.0 d (parent lists x) x (omega arith) one r.1 refl

-- below an inner node a leaf stands below one of its children
child_on : (lists : Lists) (k d y : ℕ) → 1 ≤ d → up lists (suc k) d ≡ y → (j : ℕ) × (1 ≤ up lists j d) × (parent lists (up lists j d) ≡ y)
unfolding up
child_on lists zero d y one e = (0, one, e)
child_on lists (suc k) d y one e =
    elim (cases_eq (parent lists d) 0) [
      | inl e0 ↦ (0, one, e0 ∙ sym (sym e ∙ ap (up lists (suc k)) e0 ∙ up_at_zero lists (suc k)))
      | inr n ↦ let r = child_on lists k (parent lists d) y (omega arith) e in (suc r.0, r.1, r.2)
    ]

-- a leaf of a node that is no device is a leaf of one of its children
pub child_of : (lists : Lists) → Lawful lists → (y d : ℕ) → IsInner lists y → IsLeafOf lists y d → (x : ℕ) × IsNode lists x
    × (parent lists x ≡ y) × IsLeafOf lists x d
unfolding up
child_of lists law y d inner h =
    let parts = leaf_of_parts lists y d h in
    let r = up_from_below lists y d parts.1 in
    go r.0 r.1 parts.0
  where
    go : (k : ℕ) → up lists k d ≡ y → is_leaf lists d ≡ true → (x : ℕ) × IsNode lists x × (parent lists x ≡ y) × IsLeafOf lists x d
    go zero e leaf = absurd (both_ways (is_leaf lists y) inner (ap (is_leaf lists) (sym e) ∙ leaf))
    go (suc k) e leaf =
        let node = leaf_node lists law d leaf in
        let r = child_on lists k d y node.0 e in
        (up lists r.0 d, (r.1, omega (arith, up_le lists law r.0 d, node.1)), r.2, leaf_of lists (up lists r.0 d) d leaf (below_from_up lists law r.0 d))

-- Turns of the loops over a market's tables.
use Rattle.std.proofs.Common.{◌≡◌, ℕ, zero, suc, ◌+◌, ◌-◌, ◌≤◌, Bool, true, false, cond, eqb, not, ◌&&◌, ◌||◌, ◌⊎◌, inl}
use Rattle.std.proofs.Common.{inr, List, [], ◌∷◌, map, length, get_or, refl, sym, ◌∙◌, ap, arith}
use Rattle.std.proofs.lemmas.Bool.{cases_eq, cases_Bool, cond-true, cond-false, and_from, both_ways, false_from_ne_true, eq-eqb, ne_eqb}
use Rattle.std.proofs.Math.ListN.{get_or-map}
use Rattle.pm_market.specs.Lists.{Lists, parent, is_leaf, is_leaf_of, is_member, is_below, is_below_in, IsInner}
use Rattle.pm_market.specs.State.{State, all_to, cut_at, part, part_of, knowledge_of, newest_number_of, is_same_on, greatest_number}
use Rattle.pm_base.specs.Cuts.{Cut, cut_of}
use Rattle.pm_market.specs.Held.{last_join}
use Rattle.pm_market.proofs.Tree.{parent_zero, toward, toward_all, toward-none, toward-suc}
use Rattle.pm_market.proofs.Cuts.{all_to_at, part_inner, part_zero, newest_inner}

-- one more number passes
pub all_to_more : (n k : ℕ) (p : ℕ → Bool) → k ≡ n + 1 → p k ≡ true → all_to n p ≡ true → all_to k p ≡ true
unfolding all_to
all_to_more n zero p e here h = absurd (omega arith)
all_to_more n (suc k) p e here h = let same : k ≡ n = omega arith in and_from (p (suc k)) (all_to k p) here (ap (λ (m : ℕ). all_to m p) same ∙ h)

-- a test that is not passed
pub refused : (b : Bool) → (b ≡ true → ⊥) → false ≡ b
refused b h = sym (false_from_ne_true b h)

-- the number after those that pass does not, so not all do
pub all_to_stops : (n k : ℕ) (p : ℕ → Bool) → all_to k p ≡ true → k + 1 ≤ n → p (k + 1) ≡ false → false ≡ all_to n p
all_to_stops n k p before le h = refused (all_to n p) (λ e. both_ways (p (k + 1)) h (all_to_at n p e (k + 1) (omega arith) le))

-- what fails, fails beside any other test
pub fails_beside : (a b : Bool) → false ≡ a → false ≡ a && b
fails_beside a b e = ap (λ (x : Bool). x && b) e

-- all numbers pass once as many do as there are
pub all_to_whole : (n k : ℕ) (p : ℕ → Bool) → n ≡ k → all_to k p ≡ true → true ≡ all_to n p
all_to_whole n k p e h = sym (ap (λ (m : ℕ). all_to m p) e ∙ h)

-- the turns of a loop that ends early at a number that does not pass
pub ruleset all_to_turns = (all_to_more, all_to_whole)

-- nothing stands above the auctioneer
pub below_zero : (lists : Lists) (levels x : ℕ) → (x ≡ 0 → ⊥) → is_below_in lists levels x 0 ≡ false
unfolding is_below_in
below_zero lists zero x ne = ne_eqb x 0 ne
below_zero lists (suc levels) x ne = ap (λ (b : Bool). b || is_below_in lists levels x (parent lists 0)) (ne_eqb x 0 ne)
    ∙ ap (is_below_in lists levels x) (parent_zero lists) ∙ below_zero lists levels x ne

-- a node stands at or above itself, within any number of levels
pub below_here : (lists : Lists) (levels x d : ℕ) → d ≡ x → is_below_in lists levels x d ≡ true
unfolding is_below_in
below_here lists zero x d e = eq-eqb x d (sym e)
below_here lists (suc levels) x d e = ap (λ (b : Bool). b || is_below_in lists levels x (parent lists d)) (eq-eqb x d (sym e))

-- within no level, x stands at or above d only where it is d
pub below_last : (lists : Lists) (levels x d : ℕ) → levels ≡ 0 → is_below_in lists levels x d ≡ eqb x d
unfolding is_below_in
below_last lists zero x d e = refl
below_last lists (suc levels) x d e = absurd (omega arith)

-- whether x stands above another node is whether it stands at or above its parent, within a level less
pub below_step : (lists : Lists) (levels x d : ℕ) → 1 ≤ levels → (d ≡ x → ⊥) →
    is_below_in lists levels x d ≡ is_below_in lists (levels - 1) x (parent lists d)
unfolding is_below_in
below_step lists zero x d one ne = absurd (omega arith)
below_step lists (suc levels) x d one ne =
    let less : levels ≡ suc levels - 1 = omega arith in
    ap (λ (b : Bool). b || is_below_in lists levels x (parent lists d)) (ne_eqb x d (λ w. ne (sym w)))
    ∙ ap (λ (k : ℕ). is_below_in lists k x (parent lists d)) less

-- on the way up from the auctioneer there is no child of y: the search gives 0
pub toward_zero : (lists : Lists) (count y : ℕ) → toward lists count y 0 ≡ 0
toward_zero lists zero y = toward-none lists y 0
toward_zero lists (suc count) y =
    toward-suc lists count y 0 ∙
    elim (cases_eq (parent lists 0) y) [
      | inl e ↦ cond-true (eqb (parent lists 0) y) 0 (toward lists count y (parent lists 0)) (eq-eqb (parent lists 0) y e)
      | inr n ↦ cond-false (eqb (parent lists 0) y) 0 (toward lists count y (parent lists 0)) (ne_eqb (parent lists 0) y n)
          ∙ ap (toward lists count y) (parent_zero lists) ∙ toward_zero lists count y
    ]

-- a node whose parent is y is the child of y that a search from it over at least one node gives
pub toward_here : (lists : Lists) (count y d : ℕ) → 1 ≤ count → parent lists d ≡ y → toward lists count y d ≡ d
toward_here lists zero y d one at = absurd (omega arith)
toward_here lists (suc count) y d one at =
    toward-suc lists count y d ∙ cond-true (eqb (parent lists d) y) d (toward lists count y (parent lists d)) (eq-eqb (parent lists d) y at)

-- from a node whose parent is not y the search for the child of y goes on at its parent, with a node less
pub toward_step : (lists : Lists) (count y d : ℕ) → 1 ≤ count → (parent lists d ≡ y → ⊥) →
    toward lists count y d ≡ toward lists (count - 1) y (parent lists d)
toward_step lists zero y d one ne = absurd (omega arith)
toward_step lists (suc count) y d one ne =
    let less : count ≡ suc count - 1 = omega arith in
    toward-suc lists count y d
    ∙ cond-false (eqb (parent lists d) y) d (toward lists count y (parent lists d)) (ne_eqb (parent lists d) y ne)
    ∙ ap (λ (k : ℕ). toward lists k y (parent lists d)) less

-- a search for the child of y over no node gives 0
pub toward_last : (lists : Lists) (count y d : ℕ) → count ≡ 0 → toward lists count y d ≡ 0
toward_last lists count y d none = ap (λ (k : ℕ). toward lists k y d) none ∙ toward-none lists y d

-- the cut of a row
pub cut_at_row : (rows : List (List ℕ)) (i : ℕ) → cut_of (get_or ([] ∷ rows) i []) ≡ cut_at (map cut_of rows) i
unfolding cut_at
cut_at_row rows i = sym (get_or-map cut_of ([] ∷ rows) i [])

-- where the cut stands under number n, above 0, the greatest number up to n with it is n
pub greatest_here : (lists : Lists) (cuts : List Cut) (x : ℕ) (cut : Cut) (n : ℕ) → 1 ≤ n →
    is_same_on lists x (cut_at cuts n) cut ≡ true → greatest_number lists cuts x cut n ≡ n
unfolding greatest_number
greatest_here lists cuts x cut zero one same = absurd (omega arith)
greatest_here lists cuts x cut (suc n) one same = cond-true (is_same_on lists x (cut_at cuts (suc n)) cut) (suc n) (greatest_number lists cuts x cut n) same

-- where the cut does not stand under number n, the greatest number up to n with it is that up to n - 1
pub greatest_below : (lists : Lists) (cuts : List Cut) (x : ℕ) (cut : Cut) (n : ℕ) → 1 ≤ n →
    is_same_on lists x (cut_at cuts n) cut ≡ false → greatest_number lists cuts x cut n ≡ greatest_number lists cuts x cut (n - 1)
unfolding greatest_number
greatest_below lists cuts x cut zero one same = absurd (omega arith)
greatest_below lists cuts x cut (suc n) one same =
    let less : n ≡ suc n - 1 = omega arith in
    cond-false (is_same_on lists x (cut_at cuts (suc n)) cut) (suc n) (greatest_number lists cuts x cut n) same ∙ ap (greatest_number lists cuts x cut) less

-- two tests that are passed together
pub same_tests : (a b : Bool) → (a ≡ true → b ≡ true) → (b ≡ true → a ≡ true) → a ≡ b
same_tests a b h k =
    elim (cases_Bool a) [
      | inl e ↦ e ∙ sym (h e)
      | inr e ↦ e ∙ refused b (λ w. both_ways a e (k w))
    ]

-- what a concentrator published last
pub newest_part : (lists : Lists) (s : State) (c : ℕ) → IsInner lists c →
    part lists s c (newest_number_of lists s c) ≡ cut_at (s.published c) (length (s.published c))
newest_part lists s c inner = part_inner lists s.published c (newest_number_of lists s c) inner
    ∙ ap (cut_at (s.published c)) (newest_inner lists s.counts s.published c inner)

-- a node without a parent below the auctioneer leads nowhere else
toward_past : (lists : Lists) (count y d : ℕ) → parent lists d ≡ 0 → (toward lists count y d ≡ d) ⊎ (toward lists count y d ≡ 0)
toward_past lists zero y d top = inr (toward-none lists y d)
toward_past lists (suc count) y d top =
    elim (cases_Bool (eqb (parent lists d) y)) [
      | inl e ↦ inl (toward-suc lists count y d ∙ cond-true (eqb (parent lists d) y) d (toward lists count y (parent lists d)) e)
      | inr e ↦ inr (toward-suc lists count y d ∙ cond-false (eqb (parent lists d) y) d (toward lists count y (parent lists d)) e
          ∙ ap (toward lists count y) top ∙ toward_zero lists count y)
    ]

cut_at_none : (i d : ℕ) → cut_at [] i d ≡ 0
unfolding cut_at
cut_at_none zero d = refl
cut_at_none (suc i) d = refl

-- past the last node nothing is known
pub known_past : (lists : Lists) (published : ℕ → List Cut) (learnt : ℕ → ℕ) (y d : ℕ) → parent lists d ≡ 0 →
    is_leaf lists d ≡ false → published d ≡ [] → learnt 0 ≡ 0 → knowledge_of lists published learnt y d ≡ 0
unfolding knowledge_of
known_past lists published learnt y d top inner empty none =
    elim (toward_past lists d y d top) [
      | inl e ↦ ap (λ (x : ℕ). part_of lists published x (learnt x) d) (sym (toward_all lists y d) ∙ e) ∙
          ap (λ (a : Cut). a d) (part_inner lists published d (learnt d) inner)
          ∙ ap (λ (l : List Cut). cut_at l (learnt d) d) empty ∙ cut_at_none (learnt d) d
      | inr e ↦ ap (λ (x : ℕ). part_of lists published x (learnt x) d) (sym (toward_all lists y d) ∙ e)
          ∙ ap (λ (k : ℕ). part_of lists published 0 k d) none ∙
          part_zero lists published 0 d
    ]

-- where change n of a device is a join, the last join among the first n changes is n
pub join_here : (lists : Lists) (d n : ℕ) → 1 ≤ n → is_member lists d n && not (is_member lists d (n - 1)) ≡ true → last_join lists d n ≡ n
unfolding last_join
join_here lists d zero one h = absurd (omega arith)
join_here lists d (suc n) one h =
    let same : suc n - 1 ≡ n = omega arith in
    cond-true (is_member lists d (suc n) && not (is_member lists d n)) (suc n) (last_join lists d n)
    (ap (λ (k : ℕ). is_member lists d (suc n) && not (is_member lists d k)) (sym same) ∙ h)

-- where change n of a device is no join, the last join among the first n is that among the first n - 1
pub join_below : (lists : Lists) (d n : ℕ) → 1 ≤ n → is_member lists d n && not (is_member lists d (n - 1)) ≡ false →
    last_join lists d n ≡ last_join lists d (n - 1)
unfolding last_join
join_below lists d zero one h = absurd (omega arith)
join_below lists d (suc n) one h =
    let less : n ≡ suc n - 1 = omega arith in
    cond-false (is_member lists d (suc n) && not (is_member lists d n)) (suc n) (last_join lists d n)
    (ap (λ (j : ℕ). is_member lists d (suc n) && not (is_member lists d j)) less ∙ h) ∙ ap (last_join lists d) less

-- the turns of a walk up the tree that asks whether a node stands on the way
pub ruleset below_turns = (below_zero, below_here, below_step, below_last)

-- the turns of a walk up the tree that seeks the child of a node
pub ruleset toward_turns = (toward_zero, toward_here, toward_step, toward_all)

-- the turns of a search for the greatest number of a cut
pub ruleset greatest_turns = (greatest_here, greatest_below)

-- the turns of a search for the last join
pub ruleset join_turns = (join_here, join_below)

or_turned : (a b c : Bool) → a || b || c ≡ a || (b || c)
or_turned true b c = refl
or_turned false b c = refl

-- a node is on the way up from another, or the rest of the way has it
pub below_marked : (lists : Lists) (levels more x d : ℕ) (old new goal : Bool) → more ≡ levels + 1 → new ≡ old || eqb x d →
    old || is_below_in lists more x d ≡ goal → new || is_below_in lists levels x (parent lists d) ≡ goal
unfolding is_below_in
below_marked lists levels zero x d old new goal e marked h = absurd (omega arith)
below_marked lists levels (suc more) x d old new goal e marked h =
    let same : more ≡ levels = omega arith in
    ap (λ (b : Bool). b || is_below_in lists levels x (parent lists d)) marked
    ∙ or_turned old (eqb x d) (is_below_in lists levels x (parent lists d))
    ∙ ap (λ (k : ℕ). old || (eqb x d || is_below_in lists k x (parent lists d))) (sym same) ∙ h

-- at the auctioneer the way ends
pub below_ends : (lists : Lists) (levels x d : ℕ) → d ≡ 0 → is_below_in lists levels x d ≡ eqb x d
below_ends lists levels x d top =
    elim (cases_eq x 0) [
      | inl e ↦ below_here lists levels x d (top ∙ sym e) ∙ sym (eq-eqb x d (e ∙ sym top))
      | inr ne ↦ ap (is_below_in lists levels x) top ∙ below_zero lists levels x ne ∙ sym (ne_eqb x d (λ e. ne (e ∙ top)))
    ]

not_and : (a b : Bool) → not a || not b ≡ not (b && a)
not_and true true = refl
not_and true false = refl
not_and false true = refl
not_and false false = refl

or_none : (a : Bool) → a || false ≡ a
or_none true = refl
or_none false = refl

-- a mark says that some number so far does not pass
pub marked_more : (n k : ℕ) (p : ℕ → Bool) (old new : Bool) → k ≡ n + 1 → old ≡ not (all_to n p) → new ≡ old || not (p k) →
    new ≡ not (all_to k p)
unfolding all_to
marked_more n zero p old new e before here = absurd (omega arith)
marked_more n (suc k) p old new e before here =
    let same : n ≡ k = omega arith in
    here ∙ ap (λ (b : Bool). b || not (p (suc k))) (before ∙ ap (λ (m : ℕ). not (all_to m p)) same) ∙ not_and (all_to k p) (p (suc k))

-- a mark stays where the next number passes
pub marked_none : (old passes : Bool) → passes ≡ true → old ≡ old || not passes
marked_none old passes e = sym (ap (λ (b : Bool). old || not b) e ∙ or_none old)

-- a number above 0 is one of the leaves of each node above the device
pub number_marks : (lists : Lists) (x d : ℕ) (cut : Cut) → is_leaf lists d ≡ true → 1 ≤ cut d →
    not (cond (is_leaf_of lists x d) (eqb (cut d) 0) true) ≡ is_below lists x d
unfolding is_leaf_of
number_marks lists x d cut leaf some =
    ap (λ (b : Bool). not (cond (b && is_below lists x d) (eqb (cut d) 0) true)) leaf
    ∙ ap (λ (b : Bool). not (cond (is_below lists x d) b true)) (ne_eqb (cut d) 0 (λ e. absurd (omega (arith, some, e))))
    ∙ turned (is_below lists x d)
  where
    turned : (b : Bool) → not (cond b false true) ≡ b
    turned true = refl
    turned false = refl

-- a node of which the cut has number 0 passes the test of all zeros on the leaves of x
pub no_number_passes : (lists : Lists) (x d : ℕ) (cut : Cut) → cut d ≡ 0 → cond (is_leaf_of lists x d) (eqb (cut d) 0) true ≡ true
no_number_passes lists x d cut none =
    elim (cases_Bool (is_leaf_of lists x d)) [
      | inl e ↦ cond-true (is_leaf_of lists x d) (eqb (cut d) 0) true e ∙ eq-eqb (cut d) 0 none
      | inr e ↦ cond-false (is_leaf_of lists x d) (eqb (cut d) 0) true e
    ]

-- a node that is no device passes the test of all zeros on the leaves of x
pub no_leaf_passes : (lists : Lists) (x d : ℕ) (cut : Cut) → is_leaf lists d ≡ false → cond (is_leaf_of lists x d) (eqb (cut d) 0) true ≡ true
unfolding is_leaf_of
no_leaf_passes lists x d cut none = ap (λ (b : Bool). cond (b && is_below lists x d) (eqb (cut d) 0) true) none

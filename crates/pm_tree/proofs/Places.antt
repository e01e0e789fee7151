-- A node's place among its parent's children, and the child at a place.
use Rattle.std.proofs.Common.{◌≡◌, ℕ, ◌+◌, ◌-◌, ◌<◌, ◌≤◌, get_or, zero, suc, true, List, [], ◌∷◌, ◌++◌, length, Some}
use Rattle.std.proofs.Common.{slice_get}
use Rattle.std.proofs.Common.{if◌then◌else◌, refl, sym, ap, subst, ◌∙◌}
use Rattle.std.proofs.Common.{arith}
use Rattle.std.proofs.Common.{Bool, false, ◌==◌, ◌⊎◌, inl, inr, append-nil}
use Rattle.std.proofs.lemmas.Bool.Decides.{nat_tests}
use Rattle.std.proofs.lemmas.Option.{slice_get-get_or}
use Rattle.pm_base.proofs.Numbers.{same_number}
use Rattle.pm_tree.specs.Shape.{parent_at, children_among, children_at, place_at}
use Rattle.pm_tree.specs.Entries.{Entry, parents_of, parent_of, children_of, place_of}
use Rattle.pm_tree.proofs.Named.{length-parents_of}
use Rattle.pm_tree.proofs.Ranges.{children_among-more}
use Rattle.pm_tree.proofs.TableLists.{place_is}

get-front : (xs ys : List ℕ) (k x : ℕ) → slice_get xs k ≡ Some x → slice_get (xs ++ ys) k ≡ Some x
get-front [] ys k x here = (cc)
get-front (y ∷ xs) ys zero x here = here
get-front (y ∷ xs) ys (suc k) x here = get-front xs ys k x here

get-last : (xs : List ℕ) (x : ℕ) → slice_get (xs ++ x ∷ []) (length xs) ≡ Some x
get-last [] x = refl
get-last (y ∷ xs) x = get-last xs x

-- an element of a list with one more stands in the list, or is the one more
get-more : (xs : List ℕ) (last k x : ℕ) → slice_get (xs ++ last ∷ []) k ≡ Some x → (slice_get xs k ≡ Some x)
    ⊎ ((k ≡ length xs) × (x ≡ last))
get-more [] last zero x here = inr (refl, (cc))
get-more [] last (suc k) x here = (cc)
get-more (y ∷ xs) last zero x here = inl here
get-more (y ∷ xs) last (suc k) x here = elim (get-more xs last k x here) [
  | inl before ↦ inl before
  | inr last_one ↦ inr (ap (λ n. suc n) last_one.0, last_one.1)
]

-- the children among one node more, where it is a child and where it is none
child-more : (parents : List ℕ) (count node : ℕ) → parent_at parents (count + 1) ≡ node →
    children_among parents (count + 1) node ≡ children_among parents count node ++ (count + 1) ∷ []
child-more parents count node is =
    let child : (parent_at parents (count + 1) == node) ≡ true = grind (arith, nat_tests) in
    children_among-more parents count node ∙ ap (λ b. children_among parents count node ++ (if b then (count + 1) ∷ [] else [])) child

-- so many earlier nodes have the node's parent
place-next : (parents : List ℕ) (count node : ℕ) → count + 1 ≤ length parents → parent_at parents (count + 1) ≡ node →
    length (children_among parents count node) ≡ place_at parents (count + 1)
place-next parents count node inside is =
    let same : count + 1 - 1 ≡ count = omega arith in
    ap (λ n. length (children_among parents count n)) (sym is)
    ∙ ap (λ n. length (children_among parents n (parent_at parents (count + 1)))) (sym same)
    ∙ place_is parents (count + 1) (omega arith)

-- the node stands at its place once it is among the nodes, and stays there
child_among : (parents : List ℕ) (before more node : ℕ) → before + 1 ≤ length parents → parent_at parents (before + 1) ≡ node →
    slice_get (children_among parents (before + 1 + more) node) (place_at parents (before + 1)) ≡ Some (before + 1)
child_among parents before zero node inside is =
    let none : before + 1 + 0 ≡ before + 1 = omega arith in
    ap (λ n. slice_get (children_among parents n node) (place_at parents (before + 1))) none
    ∙ ap (λ (l : List ℕ). slice_get l (place_at parents (before + 1))) (child-more parents before node is)
    ∙ ap (λ n. slice_get (children_among parents before node ++ (before + 1) ∷ []) n) (sym (place-next parents before node inside is))
    ∙ get-last (children_among parents before node) (before + 1)
child_among parents before (suc more) node inside is =
    let next : before + 1 + suc more ≡ before + 1 + more + 1 = omega arith in
    let front = get-front (children_among parents (before + 1 + more) node)
    (if parent_at parents (before + 1 + more + 1) == node then (before + 1 + more + 1) ∷ [] else [])
    (place_at parents (before + 1)) (before + 1) (child_among parents before more node inside is) in
    ap (λ n. slice_get (children_among parents n node) (place_at parents (before + 1))) next
    ∙ ap (λ (l : List ℕ). slice_get l (place_at parents (before + 1))) (children_among-more parents (before + 1 + more) node)
    ∙ front

-- what stands among the children is a child, at its place
pub record IsChildAt (parents : List ℕ) (node k child : ℕ) : Type 0 where
  -- the parent of the child is the node
  pub parent_is : parent_at parents child ≡ node
  -- as many earlier nodes have the child's parent as the place says
  pub place_is : place_at parents child ≡ k

-- of one node more, where that is a child and where it is none
child_next : (parents : List ℕ) (count node k child : ℕ) → count + 1 ≤ length parents →
    (slice_get (children_among parents count node) k ≡ Some child → IsChildAt parents node k child) → (is_child : Bool) →
    (parent_at parents (count + 1) == node) ≡ is_child →
    slice_get (children_among parents count node ++ (if is_child then (count + 1) ∷ [] else [])) k ≡ Some child → IsChildAt parents node k child
child_next parents count node k child inside earlier true is listed =
    let parent : parent_at parents (count + 1) ≡ node = same_number (parent_at parents (count + 1)) node is in
    elim (get-more (children_among parents count node) (count + 1) k child listed) [
      | inl before ↦ earlier before
      | inr last ↦ record {
        parent_is = ap (parent_at parents) last.1 ∙ parent;
        place_is = ap (place_at parents) last.1 ∙ sym (place-next parents count node inside parent) ∙ sym last.0;
      }
    ]
child_next parents count node k child inside earlier false is listed =
    earlier (ap (λ (l : List ℕ). slice_get l k) (sym (append-nil (children_among parents count node))) ∙ listed)

child_from : (parents : List ℕ) (count node k child : ℕ) → count ≤ length parents → slice_get (children_among parents count node) k ≡ Some child →
    IsChildAt parents node k child
child_from parents zero node k child inside here = (cc)
child_from parents (suc count) node k child inside here =
    let next : suc count ≡ count + 1 = omega arith in
    let listed : slice_get (children_among parents (count + 1) node) k ≡ Some child =
    subst (λ n. slice_get (children_among parents n node) k ≡ Some child) next here in
    child_next parents count node k child (omega arith) (λ before. child_from parents count node k child (omega arith) before)
    (parent_at parents (count + 1) == node) refl
    (ap (λ (l : List ℕ). slice_get l k) (sym (children_among-more parents count node)) ∙ listed)

-- the child at a node's place among the children of its parent is the node
pub child_at_place : (entries : List Entry) (node : ℕ) → 1 ≤ node → node ≤ length entries →
    slice_get (children_of entries (parent_of entries node)) (place_of entries node) ≡ Some node
unfolding children_at
child_at_place entries node entry inside =
    let parents = parents_of entries in
    let same : node - 1 + 1 ≡ node = omega arith in
    let within : node ≤ length parents = omega (arith, length-parents_of entries) in
    let all : node - 1 + 1 + (length parents - node) ≡ length parents = omega arith in
    let P : ℕ → Type 0 = λ n. slice_get (children_among parents (length parents) (parent_at parents node)) (place_at parents n) ≡ Some n in
    subst P same
    (ap (λ n. slice_get (children_among parents n (parent_at parents node)) (place_at parents (node - 1 + 1))) (sym all)
    ∙ child_among parents (node - 1) (length parents - node) (parent_at parents node) (omega arith) (ap (parent_at parents) same))

-- each child of a node has the node as its parent
pub parent_of_child : (entries : List Entry) (node k child : ℕ) → slice_get (children_of entries node) k ≡ Some child → parent_of entries child ≡ node
unfolding children_at
parent_of_child entries node k child here =
    let found : IsChildAt (parents_of entries) node k child = child_from (parents_of entries) (length (parents_of entries)) node k child (omega arith) here in
    found.parent_is

-- and its place is the place at which it stands
pub place_of_child : (entries : List Entry) (node k child : ℕ) → slice_get (children_of entries node) k ≡ Some child → place_of entries child ≡ k
unfolding children_at
place_of_child entries node k child here =
    let found : IsChildAt (parents_of entries) node k child = child_from (parents_of entries) (length (parents_of entries)) node k child (omega arith) here in
    found.place_is

-- of a list with at most one more, an element stands in the list, or is the one more
among_more : (xs : List ℕ) (last k x : ℕ) (more : Bool) → slice_get (xs ++ (if more then last ∷ [] else [])) k ≡ Some x →
    (slice_get xs k ≡ Some x) ⊎ (x ≡ last)
among_more xs last k x false here = inl (ap (λ (l : List ℕ). slice_get l k) (sym (append-nil xs)) ∙ here)
among_more xs last k x true here = elim (get-more xs last k x here) [ inl before ↦ inl before | inr w ↦ inr w.1 ]

-- the children of a node are among the nodes
child_inside : (parents : List ℕ) (count node k child : ℕ) → slice_get (children_among parents count node) k ≡ Some child →
    (1 ≤ child) × (child ≤ count)
child_inside parents zero node k child here = (cc)
child_inside parents (suc count) node k child here =
    let next : suc count ≡ count + 1 = omega arith in
    let listed : slice_get (children_among parents (count + 1) node) k ≡ Some child =
    subst (λ n. slice_get (children_among parents n node) k ≡ Some child) next here in
    elim (among_more (children_among parents count node) (count + 1) k child (parent_at parents (count + 1) == node)
    (ap (λ (l : List ℕ). slice_get l k) (sym (children_among-more parents count node)) ∙ listed)) [
      | inl before ↦ let w = child_inside parents count node k child before in (w.0, omega (arith, w.1))
      | inr last ↦ (omega (arith, last), omega (arith, last))
    ]

-- what stands in place k among the children of a node is an entry, with the node as its parent and k as its place
pub child_entry : (entries : List Entry) (node k : ℕ) → k < length (children_of entries node) →
    (1 ≤ get_or (children_of entries node) k 0) × (get_or (children_of entries node) k 0 ≤ length entries)
    × (parent_of entries (get_or (children_of entries node) k 0) ≡ node) × (place_of entries (get_or (children_of entries node) k 0) ≡ k)
unfolding children_at
child_entry entries node k lt =
    let child : ℕ = get_or (children_of entries node) k 0 in
    let here : slice_get (children_of entries node) k ≡ Some child = slice_get-get_or (children_of entries node) k 0 lt in
    let inside = child_inside (parents_of entries) (length (parents_of entries)) node k child here in (
      inside.0,
      omega (arith, inside.1, length-parents_of entries),
      parent_of_child entries node k child here,
      place_of_child entries node k child here,
    )

-- Lists of the first nodes, one node more at a time.
use Rattle.std.proofs.Common.{◌≡◌, ℕ, ◌+◌, ◌<◌, ◌≤◌, zero, suc, Bool, true, false, ◌&&◌, if◌then◌else◌, List, [], ◌∷◌}
use Rattle.std.proofs.Common.{◌++◌, length, get_or, filter, take, count_by, refl, sym, ap, ◌∙◌, arith, ◌==◌, length-append, add-zero}
use Rattle.std.specs.List.{range_with_len}
use Rattle.std.proofs.lemmas.List.Elements.{filter-append}
use Rattle.std.proofs.lemmas.List.Sums.{count_by_more_no, count_by_more_yes}
use Rattle.pm_base.proofs.Lists.{range_with_len-more}
use Rattle.pm_tree.specs.Shape.{parent_at, leaf_at, is_on_path, children_among, leaves_among}

filter_range-more : (p : ℕ → Bool) (count : ℕ) → filter p (range_with_len 1 (count + 1)) ≡ filter p (range_with_len 1 count)
    ++ (if p (count + 1) then (count + 1) ∷ [] else [])
filter_range-more p count =
    let same : 1 + count ≡ count + 1 = omega arith in
    ap (filter p) (range_with_len-more 1 count ∙ ap (λ n. range_with_len 1 count ++ n ∷ []) same)
    ∙ filter-append p (range_with_len 1 count) ((count + 1) ∷ [])

-- a node's children among the first nodes and one more are those so far, and that one if it is a child
pub children_among-more : (parents : List ℕ) (count node : ℕ) →
    children_among parents (count + 1) node ≡ children_among parents count node ++ (if parent_at parents (count + 1) == node then (count + 1) ∷ [] else [])
children_among-more parents count node = filter_range-more (λ child. parent_at parents child == node) count

-- a node's leaves among the first nodes and one more are those so far, and that one if it is such a leaf
pub leaves_among-more : (parents : List ℕ) (leaves : List Bool) (count node : ℕ) → leaves_among parents leaves (count + 1) node
    ≡ leaves_among parents leaves count node ++ (if leaf_at leaves (count + 1) && is_on_path parents (count + 1) node then (count + 1) ∷ [] else [])
leaves_among-more parents leaves count node = filter_range-more (λ leaf. leaf_at leaves leaf && is_on_path parents leaf node) count

-- as many children as there are equal parents
pub length-children_among : (parents : List ℕ) (node count : ℕ) → count ≤ length parents → length (children_among parents count node)
    ≡ count_by (λ parent. parent == node) (take count parents)
length-children_among parents node zero inside = refl
length-children_among parents node (suc count) inside =
    let more : suc count ≡ count + 1 = omega arith in
    let low : count < length parents = omega arith in
    let before = length-children_among parents node count (omega arith) in
    ap (λ n. length (children_among parents n node)) more
    ∙ ap length (children_among-more parents count node)
    ∙ length-append (children_among parents count node) (if parent_at parents (count + 1) == node then (count + 1) ∷ [] else [])
    ∙ by (get_or parents count 0 == node) (ap (λ n. get_or (0 ∷ parents) n 0 == node) (sym more)) refl low before
    ∙ ap (λ n. count_by (λ parent. parent == node) (take n parents)) (sym more)
  where
    by : (same : Bool) → (parent_at parents (count + 1) == node) ≡ (get_or parents count 0 == node) →
        (get_or parents count 0 == node) ≡ same → count < length parents
        → length (children_among parents count node) ≡ count_by (λ parent. parent == node) (take count parents)
        → length (children_among parents count node) + length (if parent_at parents (count + 1) == node then (count + 1) ∷ [] else [])
        ≡ count_by (λ parent. parent == node) (take (count + 1) parents)
    by true at is low before = rw (at, is, before) (sym (count_by_more_yes (λ parent. parent == node) parents count 0 low is))
    by false at is low before = rw (at, is, before) (add-zero _ ∙ sym (count_by_more_no (λ parent. parent == node) parents count 0 low is))

-- The tree of a list that is accepted, and the refusals of a list.
use Rattle.std.proofs.Common.{◌≡◌, ℕ, ◌+◌, ◌<◌, ◌≤◌, true, if◌then◌else◌, List, [], length, get_or, drop, Some, None, Result, Ok}
use Rattle.std.proofs.Common.{Err, sym, ap, subst, ◌∙◌, arith, nat_lt, slice_get, ◌⊎◌, inl, inr}
use Rattle.std.proofs.lemmas.Bool.Decides.{nat_tests}
use Rattle.std.proofs.lemmas.Bool.{le-ltb}
use Rattle.pm_base.specs.Limits.{most_nodes}
use Rattle.pm_tree.specs.Shape.{children_at, leaves_below_at, place_at, IsTree}
use Rattle.pm_tree.specs.Entries.{Entry, parents_of, leaves_of, parent_of, is_leaf_at, depth_of, refusals_after, first_refusal, tree_unless, checked_tree}
use Rattle.pm_tree.specs.Tables.{shape_parents, shape_leaves, AreLists, AreNumbers, IsIndexOf, AreTables}
use Rattle.pm_tree.specs.declared.fault.TreeFault.{TreeFault}
use Rattle.pm_tree.specs.declared.fault.TreeFault.TheVariants.{TooMany, NoMemory}
use Rattle.pm_tree.specs.declared.node.TreeNode.{TreeNode}
use Rattle.pm_tree.proofs.Named.{length-parents_of}
use Rattle.pm_tree.proofs.Rows.{length-table, row_parent, row_leaf, row_depth}

above_limit : (n : ℕ) → most_nodes < n → nat_lt most_nodes n ≡ true
above_limit n high = grind (arith, nat_tests)

-- a list with more entries than the most nodes is refused as too many
pub too_many : (entries : List Entry) (have : ℕ) → have ≡ length entries → most_nodes < have → Err (TooMany have) ≡ checked_tree entries
unfolding first_refusal
too_many entries have is high =
    ap (λ n. Err (TooMany n)) is
    ∙ sym (ap (λ b. tree_unless entries (if b then Some (TooMany (length entries)) else slice_get (refusals_after [] entries) 0))
    (above_limit (length entries) (omega arith)))

-- the first refusal of a list of at most the most nodes is the first of its entries' refusals
pub first_refusal-few : (entries : List Entry) → length entries ≤ most_nodes → first_refusal entries ≡ slice_get (refusals_after [] entries) 0
unfolding first_refusal
first_refusal-few entries few =
    ap (λ b. if b then Some (TooMany (length entries)) else slice_get (refusals_after [] entries) 0) (le-ltb most_nodes (length entries) few)

-- for a list not too long, an error of the first refused entry or of memory is the list's result or of memory
pub entry_refused : (entries : List Entry) (result : Result (List Entry) TreeFault) (fault : TreeFault) →
    length entries ≤ most_nodes → result ≡ Err fault
    → (slice_get (refusals_after [] entries) 0 ≡ Some fault) ⊎ (fault ≡ NoMemory) → (result ≡ checked_tree entries) ⊎ (result ≡ Err NoMemory)
entry_refused entries result fault few is (inl first) = inl (is ∙ sym (ap (tree_unless entries) (first_refusal-few entries few ∙ first)))
entry_refused entries result fault few is (inr memory) = inr (is ∙ ap (λ e. Err e) memory)

-- a list without a refusal is accepted as it is
pub tree_accepted : (entries : List Entry) → first_refusal entries ≡ None → Ok entries ≡ checked_tree entries
tree_accepted entries accepted = sym (ap (tree_unless entries) accepted)

-- an index has a node for each entry, and one for the auctioneer
pub length-index : (entries : List Entry) (names : List (List ℕ)) (nodes : List TreeNode) → IsIndexOf entries names nodes →
    length nodes ≡ length entries + 1
length-index entries names nodes index = length-table (parents_of entries) (leaves_of entries) nodes index.nodes_are
    ∙ ap (λ n. n + 1) (length-parents_of entries)

-- the row of a node, as it is read from an index
module _ (entries : List Entry) (names : List (List ℕ)) (nodes : List TreeNode) (index : IsIndexOf entries names nodes) (node : ℕ)
    (low : node ≤ length entries) where
  -- a node has a row
  pub row_inside : node < length nodes
  row_inside = omega (arith, length-index entries names nodes index)

  module _ (row : TreeNode) (read : row ≡ get_or nodes node row) where
    -- the parent in the row is that of the node
    pub row_tells_parent : row.parent.0 ≡ parent_of entries node
    row_tells_parent =
        ap (λ (r : TreeNode). r.parent.0) read ∙ row_parent (parents_of entries) (leaves_of entries) nodes index.nodes_are node row row_inside

    -- the leaf mark in the row is that of the node
    pub row_tells_leaf : row.leaf ≡ is_leaf_at entries node
    row_tells_leaf = ap (λ (r : TreeNode). r.leaf) read ∙ row_leaf (parents_of entries) (leaves_of entries) nodes index.nodes_are node row row_inside

    -- the depth in the row is that of the node
    pub row_tells_depth : row.depth ≡ depth_of entries node
    row_tells_depth = ap (λ (r : TreeNode). r.depth) read ∙ row_depth (parents_of entries) (leaves_of entries) nodes index.nodes_are node row row_inside

-- the tables that were collected are those of the entries
pub kept_all : (entries : List Entry) (names : List (List ℕ)) (nodes : List TreeNode) (children : List (List ℕ)) (places : List ℕ)
    (leaf_lists : List (List ℕ))
    → first_refusal entries ≡ None → length entries ≤ most_nodes → IsTree (parents_of entries) (leaves_of entries) → IsIndexOf entries names nodes
    → AreLists (length nodes) (children_at (shape_parents nodes)) children → AreNumbers (length nodes) (place_at (shape_parents nodes)) places
    → AreLists (length nodes) (leaves_below_at (shape_parents nodes) (shape_leaves nodes)) leaf_lists →
    AreTables entries names nodes children places leaf_lists
kept_all entries names nodes children places leaf_lists accepted few lawful index children_are places_are leaf_lists_are =
    let count = length-index entries names nodes index in
    let parents : shape_parents nodes ≡ parents_of entries = ap (drop 1) index.nodes_are.parent_is in
    let leaves : shape_leaves nodes ≡ leaves_of entries = ap (drop 1) index.nodes_are.leaf_is in
    record {
      accepted = accepted;
      few = few;
      lawful = lawful;
      index = index;
      children_are = subst (λ ps. AreLists (length entries + 1) (children_at ps) children) parents
          (subst (λ n. AreLists n (children_at (shape_parents nodes)) children) count children_are);
      places_are = subst (λ ps. AreNumbers (length entries + 1) (place_at ps) places) parents
          (subst (λ n. AreNumbers n (place_at (shape_parents nodes)) places) count places_are);
      leaf_lists_are = subst (λ ls. AreLists (length entries + 1) (leaves_below_at (parents_of entries) ls) leaf_lists) leaves
          (subst (λ ps. AreLists (length entries + 1) (leaves_below_at ps (shape_leaves nodes)) leaf_lists) parents
          (subst (λ n. AreLists n (leaves_below_at (shape_parents nodes) (shape_leaves nodes)) leaf_lists) count leaf_lists_are));
    }

-- The node table, one row more at a time.
use Rattle.std.proofs.Common.{◌≡◌, ℕ, ◌+◌, ◌<◌, ◌≤◌, Bool, true, false, if◌then◌else◌, List, [], ◌∷◌, ◌++◌, length}
use Rattle.std.proofs.Common.{get_or, is_some, refl, sym, ap, subst, ◌∙◌, arith, length-append, leb, ◌⊎◌, inl, inr}
use Rattle.std.proofs.lemmas.Bool.Decides.{leb_tells}
use Rattle.std.proofs.lemmas.List.{length-map, map-append, get_or-map, get_or_append_left}
use Rattle.std.proofs.Math.Seq.{get_or-append_seam}
use Rattle.pm_base.specs.Limits.{most_depth}
use Rattle.pm_tree.specs.Shape.{parent_at, leaf_at, depth_at, IsTree}
use Rattle.pm_tree.specs.Entries.{Entry, node_named, number_named, parents_of, leaves_of, is_leaf_at, depth_of}
use Rattle.pm_tree.specs.Tables.{parent_numbers, leaf_marks, depth_numbers, IsNodeTable, IsRowOf, IsIndexOf}
use Rattle.pm_tree.specs.declared.node.TreeNode.{TreeNode}
use Rattle.pm_tree.proofs.Paths.{Falls, falls, parent_at-append, leaf_at-append, depth_at-append, depth_at-step, depth_at-auctioneer, parent_at-past}
use Rattle.pm_tree.specs.Names.{auctioneer}
use Rattle.pm_tree.proofs.Named.{parents_of-more, leaves_of-more, are_named-more, are_named, names_of-append, number_named-inside, length-parents_of}

-- what a row that is read says
module _ (parents : List ℕ) (leaves : List Bool) (nodes : List TreeNode) (table : IsNodeTable parents leaves nodes) where
  -- a node table has a row for each node, and one for the auctioneer
  pub length-table : length nodes ≡ length parents + 1
  length-table =
      let mapped : length (parent_numbers nodes) ≡ length nodes = length-map nodes (λ (row : TreeNode). row.parent.0) in
      let same : length (parent_numbers nodes) ≡ length (0 ∷ parents) = ap length table.parent_is in
      omega arith

  -- the parent in a row of a node table is the parent of its node
  pub row_parent : (node : ℕ) (other : TreeNode) → node < length nodes → (get_or nodes node other).parent.0 ≡ parent_at parents node
  row_parent node other inside =
      sym (get_or-map (λ (r : TreeNode). r.parent.0) nodes node other 0 inside)
      ∙ ap (λ numbers. get_or numbers node 0) table.parent_is

  -- the leaf mark in a row of a node table is that of its node
  pub row_leaf : (node : ℕ) (other : TreeNode) → node < length nodes → (get_or nodes node other).leaf ≡ leaf_at leaves node
  row_leaf node other inside =
      sym (get_or-map (λ (r : TreeNode). r.leaf) nodes node other false inside)
      ∙ ap (λ marks. get_or marks node false) table.leaf_is

  -- the depth in a row of a node table is the depth of its node
  pub row_depth : (node : ℕ) (other : TreeNode) → node < length nodes → (get_or nodes node other).depth ≡ depth_at parents leaves node
  row_depth node other inside =
      sym (get_or-map (λ (r : TreeNode). r.depth) nodes node other 0 inside)
      ∙ table.depth_is node (omega (arith, length-table))

-- a parent is no later than the last node
up_by : (up node count : ℕ) → node ≤ count → (node ≡ 0 → up ≡ 0) → (0 < node → up < node) → up ≤ count
up_by up node count low top down = grind arith

-- a bound by cases: the earlier nodes, the new one and those past it
below_by : (new old parent node count : ℕ) → (node ≤ count → new ≡ old) → old < node → (node ≡ count + 1 → new ≡ parent) →
    parent ≤ count → (count + 1 < node → new ≡ 0) → new < node
below_by new old parent node count earlier low same inside past = grind arith

-- a fact of the earlier nodes and of the new one
each_by : (P : ℕ → Type 0) (count node : ℕ) → node ≤ count + 1 → (node ≤ count → P node) → P (count + 1) → P node
each_by P count node inside earlier new = by (leb_tells node count)
  where
    by : ((leb node count ≡ true) × (node ≤ count)) ⊎ ((leb node count ≡ false) × (count < node)) → P node
    by (inl (is, low)) = earlier low
    by (inr (is, high)) = let same : count + 1 ≡ node = omega arith in subst P same new

-- one node more below an earlier concentrator or the auctioneer
module _ (parents : List ℕ) (leaves : List Bool) (parent : ℕ) (leaf : Bool) (tree : IsTree parents leaves) (inside : parent ≤ length parents) where
  -- the parent of the new node is the one that it is put under
  pub parent_at-new : parent_at (parents ++ parent ∷ []) (length parents + 1) ≡ parent
  parent_at-new =
      let same : length parents + 1 ≡ length (0 ∷ parents) = omega arith in
      ap (λ n. get_or (0 ∷ (parents ++ parent ∷ [])) n 0) same ∙ get_or-append_seam (0 ∷ parents) parent [] 0

  leaf_at-new : leaf_at (leaves ++ leaf ∷ []) (length parents + 1) ≡ leaf
  leaf_at-new =
      let same : length parents + 1 ≡ length (false ∷ leaves) = omega (arith, tree.one_each) in
      ap (λ n. get_or (false ∷ (leaves ++ leaf ∷ [])) n false) same ∙ get_or-append_seam (false ∷ leaves) leaf [] false

  length-new : length (parents ++ parent ∷ []) ≡ length parents + 1
  length-new = length-append parents (parent ∷ [])

  earlier-more : Falls (parents ++ parent ∷ [])
  earlier-more node positive =
      below_by (parent_at (parents ++ parent ∷ []) node) (parent_at parents node) parent node (length parents)
      (λ low. parent_at-append parents (parent ∷ []) node low)
      (falls parents leaves tree node positive)
      (λ same. ap (parent_at (parents ++ parent ∷ [])) same ∙ parent_at-new)
      inside
      (λ past. parent_at-past (parents ++ parent ∷ []) node (omega (arith, length-new)))

  -- the new node leaves the depths of the earlier nodes as they were
  pub depth_at-earlier : (node : ℕ) → node ≤ length parents → depth_at (parents ++ parent ∷ []) (leaves ++ leaf ∷ []) node
      ≡ depth_at parents leaves node
  depth_at-earlier node low = depth_at-append parents (parent ∷ []) leaves (leaf ∷ []) (falls parents leaves tree) tree.one_each node low

  -- the depth of the new node is that of its parent, and one more where it is no leaf
  pub depth_at-new : depth_at (parents ++ parent ∷ []) (leaves ++ leaf ∷ []) (length parents + 1) ≡ depth_at parents leaves parent +
      (if leaf then 0 else 1)
  depth_at-new =
      depth_at-step (parents ++ parent ∷ []) (leaves ++ leaf ∷ []) earlier-more (length parents + 1) (omega arith)
      ∙ ap (λ mark. depth_at (parents ++ parent ∷ []) (leaves ++ leaf ∷ []) (parent_at (parents ++ parent ∷ []) (length parents + 1))
      + (if mark then 0 else 1)) leaf_at-new
      ∙ ap (λ n. depth_at (parents ++ parent ∷ []) (leaves ++ leaf ∷ []) n + (if leaf then 0 else 1)) parent_at-new
      ∙ ap (λ n. n + (if leaf then 0 else 1)) (depth_at-earlier parent inside)

  -- the tree stays lawful where the parent is no leaf and the path is not too long
  pub IsTree-more : leaf_at leaves parent ≡ false → depth_at parents leaves parent + (if leaf then 0 else 1) ≤ most_depth →
      IsTree (parents ++ parent ∷ []) (leaves ++ leaf ∷ [])
  IsTree-more no_leaf shallow = record {
    one_each = length-append leaves (leaf ∷ []) ∙ ap (λ n. n + 1) tree.one_each ∙ sym length-new;
    earlier = λ node positive within. earlier-more node (omega arith);
    under_no_leaf = λ node within. each_by (λ n. leaf_at (leaves ++ leaf ∷ []) (parent_at (parents ++ parent ∷ []) n) ≡ false)
        (length parents) node (omega (arith, length-new))
        (λ low. let up : parent_at parents node ≤ length parents = up_inside node low in
        ap (leaf_at (leaves ++ leaf ∷ [])) (parent_at-append parents (parent ∷ []) node low)
        ∙ leaf_at-append leaves (leaf ∷ []) (parent_at parents node) (omega (arith, tree.one_each)) ∙ tree.under_no_leaf node low)
        (ap (leaf_at (leaves ++ leaf ∷ [])) parent_at-new ∙ leaf_at-append leaves (leaf ∷ []) parent (omega (arith, tree.one_each)) ∙ no_leaf);
    shallow = λ node within.
        each_by (λ n. depth_at (parents ++ parent ∷ []) (leaves ++ leaf ∷ []) n ≤ most_depth) (length parents) node (omega (arith, length-new))
        (λ low. omega (arith, depth_at-earlier node low, tree.shallow node low))
        (omega (arith, depth_at-new));
  }
    where
      up_inside : (node : ℕ) → node ≤ length parents → parent_at parents node ≤ length parents
      up_inside node low = up_by (parent_at parents node) node (length parents) low (λ top. ap (parent_at parents) top) (falls parents leaves tree node)

  -- the node table with the new node's row
  pub IsNodeTable-more : (nodes : List TreeNode) (row : TreeNode) → IsNodeTable parents leaves nodes → row.parent.0 ≡ parent →
      row.leaf ≡ leaf → row.depth ≡ depth_at parents leaves parent + (if leaf then 0 else 1) →
      IsNodeTable (parents ++ parent ∷ []) (leaves ++ leaf ∷ []) (nodes ++ row ∷ [])
  IsNodeTable-more nodes row table parent_is leaf_is depth_is = record {
    parent_is = map-append (λ (r : TreeNode). r.parent.0) nodes (row ∷ []) ∙ (λ i. table.parent_is i ++ parent_is i ∷ []);
    leaf_is = map-append (λ (r : TreeNode). r.leaf) nodes (row ∷ []) ∙ (λ i. table.leaf_is i ++ leaf_is i ∷ []);
    depth_is = λ node within. each_by (λ n. get_or (depth_numbers (nodes ++ row ∷ [])) n 0 ≡ depth_at (parents ++ parent ∷ [])
        (leaves ++ leaf ∷ []) n) (length parents) node (omega (arith, length-new))
        (λ low. ap (λ numbers. get_or numbers node 0) (map-append (λ (r : TreeNode). r.depth) nodes (row ∷ []))
        ∙ get_or_append_left (depth_numbers nodes) (row.depth ∷ []) 0 node
        (omega (arith, length-map nodes (λ (r : TreeNode). r.depth), length-table parents leaves nodes table))
        ∙ table.depth_is node low ∙ sym (depth_at-earlier node low))
        (let last : length parents + 1 ≡ length (depth_numbers nodes) = omega (
          arith,
          length-map nodes (λ (r : TreeNode). r.depth),
          length-table parents leaves nodes table,
        ) in
        ap (λ numbers. get_or numbers (length parents + 1) 0) (map-append (λ (r : TreeNode). r.depth) nodes (row ∷ []))
        ∙ ap (λ n. get_or (depth_numbers nodes ++ row.depth ∷ []) n 0) last
        ∙ get_or-append_seam (depth_numbers nodes) row.depth [] 0 ∙ depth_is ∙ sym depth_at-new);
  }

-- an entry that is accepted has a lawful row
module _ (before : List Entry) (e : Entry) (tree : IsTree (parents_of before) (leaves_of before)) where
  -- what the node with the parent's name has to be
  pub row_inside : number_named before e.parent ≤ length (parents_of before)
  row_inside = omega (arith, number_named-inside before e.parent, length-parents_of before)

  -- a lawful tree stays so with an entry under a named parent that is no leaf, where it does not get too deep
  pub lawful-more : is_some (node_named before e.parent) ≡ true → are_named before before ≡ true →
      is_leaf_at before (number_named before e.parent) ≡ false →
      depth_of before (number_named before e.parent) + (if e.leaf then 0 else 1) ≤ most_depth →
      IsTree (parents_of (before ++ e ∷ [])) (leaves_of (before ++ e ∷ []))
  lawful-more parent_named all_named no_leaf shallow =
      let parents = parents_of-more before e all_named parent_named in
      let leaves = leaves_of-more before e in
      let more = IsTree-more (parents_of before) (leaves_of before) (number_named before e.parent) e.leaf tree row_inside no_leaf shallow in
      rw (parents, leaves) more

  -- names and nodes with the name and the row of one entry more are the index of one entry more
  pub index-more : (names : List (List ℕ)) (nodes : List TreeNode) (row : TreeNode) → IsIndexOf before names nodes →
      is_some (node_named before e.parent) ≡ true → IsRowOf before e row → IsIndexOf (before ++ e ∷ []) (names ++ e.name ∷ []) (nodes ++ row ∷ [])
  index-more names nodes row index parent_named row_is =
      let parents = parents_of-more before e index.parents_are_named parent_named in
      let leaves = leaves_of-more before e in
      let table = IsNodeTable-more (parents_of before) (leaves_of before) (number_named before e.parent) e.leaf tree row_inside nodes
      row index.nodes_are row_is.parent_is row_is.leaf_is row_is.depth_is in
      record {
        names_are = ap (λ ns. ns ++ e.name ∷ []) index.names_are ∙ sym (names_of-append before (e ∷ []));
        parents_are_named = are_named-more before e index.parents_are_named parent_named;
        nodes_are = rw (parents, leaves) table;
      }

-- the auctioneer alone
abbrev pub first_row : TreeNode
first_row = record { parent = record { 0 = 0 }; leaf = false; depth = 0 }

first_depth : (node : ℕ) → node ≤ 0 → get_or (0 ∷ []) node 0 ≡ depth_at [] [] node
first_depth node low =
    let top : 0 ≡ node = omega arith in
    subst (λ n. get_or (0 ∷ []) n 0 ≡ depth_at [] [] n) top (sym (depth_at-auctioneer [] []))

-- the auctioneer's name and the auctioneer's row alone are the index of no entries
pub IsIndexOf-nil : (names : List (List ℕ)) (nodes : List TreeNode) → names ≡ auctioneer ∷ [] → nodes ≡ first_row ∷ [] →
    IsIndexOf [] names nodes
unfolding parents_of leaves_of
IsIndexOf-nil names nodes names_are nodes_are = record {
  names_are = names_are;
  parents_are_named = refl;
  nodes_are = record {
    parent_is = ap parent_numbers nodes_are;
    leaf_is = ap leaf_marks nodes_are;
    depth_is = λ node low. ap (λ rows. get_or (depth_numbers rows) node 0) nodes_are ∙ first_depth node low;
  };
}

-- the tree of no entries is lawful
pub IsTree-nil : IsTree (parents_of []) (leaves_of [])
unfolding parents_of leaves_of
IsTree-nil = record {
  one_each = refl;
  earlier = λ node positive low. absurd (omega arith);
  under_no_leaf = λ node low. let top : 0 ≡ node = omega arith in subst (λ n. leaf_at [] (parent_at [] n) ≡ false) top refl;
  shallow = λ node low. let top : 0 ≡ node = omega arith in subst (λ n. depth_at [] [] n ≤ most_depth) top (omega (arith, depth_at-auctioneer [] []));
}

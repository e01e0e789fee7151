-- The tables that a tree keeps for its look-ups.
use Rattle.std.specs.Prelude.{◌≡◌, ℕ, ◌+◌, ◌<◌, ◌≤◌, Bool, true, false, is_some, List, [], ◌∷◌, map, drop, length, slice_index}
use Rattle.std.specs.Prelude.{slice_index_or, None, Vec, if◌then◌else◌}
use Rattle.std.specs.List.{list_all}
use Rattle.std.specs.declared.alloc.Global.{Global}
use Rattle.pm_base.specs.Limits.{most_nodes, most_depth}
use Rattle.pm_tree.specs.Shape.{depth_at, is_on_path, IsTree}
use Rattle.pm_tree.specs.Entries.{Entry, names_of, parents_of, leaves_of, children_of, leaves_below_of, place_of, first_refusal, number_named, node_named}
use Rattle.pm_tree.specs.Entries.{is_leaf_at, depth_of}
use Rattle.pm_tree.specs.declared.node.TreeNode.{TreeNode}
use Rattle.pm_tree.specs.declared.node.NodeId.{NodeId}

-- the numbers of some nodes
abbrev pub id_numbers : List NodeId → List ℕ
id_numbers nodes = map (λ node. node.0) nodes

-- the parents of node 0, 1, 2, .. in a node table
abbrev pub parent_numbers : List TreeNode → List ℕ
parent_numbers nodes = map (λ node. node.parent.0) nodes

-- whether node 0, 1, 2, .. is a leaf in a node table
abbrev pub leaf_marks : List TreeNode → List Bool
leaf_marks nodes = map (λ node. node.leaf) nodes

-- the depths of node 0, 1, 2, .. in a node table
abbrev pub depth_numbers : List TreeNode → List ℕ
depth_numbers nodes = map (λ node. node.depth) nodes

-- the parents and the leaves of node 1, 2, .. in a node table
abbrev pub shape_parents : List TreeNode → List ℕ
shape_parents nodes = drop 1 (parent_numbers nodes)

abbrev pub shape_leaves : List TreeNode → List Bool
shape_leaves nodes = drop 1 (leaf_marks nodes)

-- the lists of a table of lists, as numbers
abbrev pub node_lists : List (Vec NodeId Global) → List (List ℕ)
node_lists lists = map (λ list. id_numbers list.items) lists

-- a node table of these parents and leaves, the auctioneer first
pub record IsNodeTable (parents : List ℕ) (leaves : List Bool) (nodes : List TreeNode) : Type 0 where
  pub parent_is : parent_numbers nodes ≡ 0 ∷ parents
  pub leaf_is : leaf_marks nodes ≡ false ∷ leaves
  pub depth_is : (node : ℕ) → node ≤ length parents → slice_index (depth_numbers nodes) node ≡ depth_at parents leaves node

-- the row of an entry in the node table, after the entries before it
pub record IsRowOf (before : List Entry) (entry : Entry) (row : TreeNode) : Type 0 where
  pub name_is_new : node_named before entry.name ≡ None
  pub parent_is_named : is_some (node_named before entry.parent) ≡ true
  pub parent_is : row.parent.0 ≡ number_named before entry.parent
  pub parent_is_no_leaf : is_leaf_at before row.parent.0 ≡ false
  pub leaf_is : row.leaf ≡ entry.leaf
  pub depth_is : row.depth ≡ depth_of before (number_named before entry.parent) + (if entry.leaf then 0 else 1)
  pub shallow : row.depth ≤ most_depth

-- a table of so many lists, of which each is the list of its node
pub record AreLists (count : ℕ) (list_at : ℕ → List ℕ) (lists : List (List ℕ)) : Type 0 where
  pub count_is : length lists ≡ count
  pub list_is : (node : ℕ) → node < count → slice_index_or lists node [] ≡ list_at node

-- what the list of a node gets if a leaf is added to the list of each node on the path from one node up
abbrev pub added_on_path : List ℕ → ℕ → ℕ → ℕ → List ℕ
added_on_path parents leaf from node = if is_on_path parents from node then leaf ∷ [] else []

-- a table of so many numbers, of which each is the number of its node
pub record AreNumbers (count : ℕ) (number_at : ℕ → ℕ) (table : List ℕ) : Type 0 where
  pub count_is : length table ≡ count
  pub number_is : (node : ℕ) → node < count → slice_index table node ≡ number_at node

-- names and nodes of these entries
pub record IsIndexOf (entries : List Entry) (names : List (List ℕ)) (nodes : List TreeNode) : Type 0 where
  pub names_are : names ≡ names_of entries
  pub parents_are_named : list_all (λ entry. is_some (node_named entries entry.parent)) entries ≡ true
  pub nodes_are : IsNodeTable (parents_of entries) (leaves_of entries) nodes

-- the tables of a lawful list of entries
pub record AreTables (entries : List Entry) (names : List (List ℕ)) (nodes : List TreeNode) (children : List (List ℕ)) (places : List ℕ)
    (leaf_lists : List (List ℕ)) : Type 0 where
  pub accepted : first_refusal entries ≡ None
  pub few : length entries ≤ most_nodes
  pub lawful : IsTree (parents_of entries) (leaves_of entries)
  pub index : IsIndexOf entries names nodes
  pub children_are : AreLists (length entries + 1) (children_of entries) children
  pub places_are : AreNumbers (length entries + 1) (place_of entries) places
  pub leaf_lists_are : AreLists (length entries + 1) (leaves_below_of entries) leaf_lists

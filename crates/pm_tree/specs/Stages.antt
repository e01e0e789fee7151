-- The checks of an entry one after another, each on the tables of the entries before it.
use Rattle.std.specs.Prelude.{◌≡◌, ℕ, ◌+◌, ◌≤◌, Bool, false, not, ◌&&◌, nat_le, if◌then◌else◌, List, position}
use Rattle.std.specs.Prelude.{slice_index, slice_index_or, Option, Some, None, is_some, unwrap_or}
use Rattle.std.specs.Option.{option_or}
use Rattle.std.specs.Str.{bytes_eq}
use Rattle.pm_base.specs.Limits.{most_depth}
use Rattle.pm_tree.specs.Names.{is_name}
use Rattle.pm_tree.specs.Entries.{Entry}
use Rattle.pm_tree.specs.Tables.{leaf_marks, depth_numbers}
use Rattle.pm_tree.specs.declared.fault.TreeFault.{TreeFault}
use Rattle.pm_tree.specs.declared.fault.TreeFault.TheVariants.{BadName, Twice, NoParent, TooDeep}
use Rattle.pm_tree.specs.declared.node.TreeNode.{TreeNode}

-- whether a node is a leaf, by its row
abbrev pub leaf_in : List TreeNode → ℕ → Bool
leaf_in nodes node = slice_index_or (leaf_marks nodes) node false

-- the depth of a node, by its row
abbrev pub depth_in : List TreeNode → ℕ → ℕ
depth_in nodes node = slice_index (depth_numbers nodes) node

-- the first check that a name fails: that it is one, and that none of these names is the same
abbrev pub name_refusal : List (List ℕ) → List ℕ → ℕ → Option TreeFault
name_refusal names name at =
    if not (is_name name) then Some (BadName at)
    else (if is_some (position (bytes_eq name) names) then Some (Twice at) else None)

-- the check of a parent's name: that it is one of these names, and its node no leaf
abbrev pub parent_refusal : List (List ℕ) → List TreeNode → List ℕ → ℕ → Option TreeFault
parent_refusal names nodes name at =
    let found = position (bytes_eq name) names in
    if not (is_some found && not (leaf_in nodes (unwrap_or found 0))) then Some (NoParent at) else None

-- the check of the depth below a parent: that of a concentrator is to have fewer concentrators above it than the most
abbrev pub depth_refusal : List TreeNode → ℕ → Bool → ℕ → Option TreeFault
depth_refusal nodes parent leaf at =
    if not leaf && nat_le most_depth (depth_in nodes parent) then Some (TooDeep at) else None

-- the first of these checks that an entry fails
abbrev pub refusal_by_tables : List (List ℕ) → List TreeNode → Entry → ℕ → Option TreeFault
refusal_by_tables names nodes entry at =
    let parent = unwrap_or (position (bytes_eq entry.parent) names) 0 in
    option_or (name_refusal names entry.name at)
    (option_or (parent_refusal names nodes entry.parent at) (depth_refusal nodes parent entry.leaf at))

-- the node with a parent's name, which is no leaf
pub record IsParent (names : List (List ℕ)) (nodes : List TreeNode) (name : List ℕ) (parent : ℕ) : Type 0 where
  pub named : position (bytes_eq name) names ≡ Some parent
  pub no_leaf : leaf_in nodes parent ≡ false

-- the row of a leaf or a concentrator below a parent
pub record IsRowBelow (nodes : List TreeNode) (parent : ℕ) (leaf : Bool) (row : TreeNode) : Type 0 where
  pub parent_is : row.parent.0 ≡ parent
  pub leaf_is : row.leaf ≡ leaf
  pub depth_is : row.depth ≡ depth_in nodes parent + (if leaf then 0 else 1)
  pub concentrator_is_shallow : leaf ≡ false → row.depth ≤ most_depth

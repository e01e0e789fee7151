-- A tree as the list of its entries, and the first refusal of a list.
-- Node 0 is the auctioneer, and the entries are nodes 1, 2, .. in list order.
use Rattle.std.specs.Prelude.{ℕ, ◌+◌, Bool, false, not, ◌&&◌, nat_lt, nat_le, if◌then◌else◌, List, [], ◌∷◌, ◌++◌, map, length}
use Rattle.std.specs.Prelude.{position, slice_get, slice_index_or, Option, Some, None, is_some, unwrap_or, Result, Ok, Err, string_bytes}
use Rattle.std.specs.Option.{option_to_list}
use Rattle.std.specs.Str.{bytes_eq}
use Rattle.pm_base.specs.Limits.{most_nodes, most_depth}
use Rattle.pm_tree.specs.Names.{auctioneer, is_name}
use Rattle.pm_tree.specs.Shape.{parent_at, leaf_at, depth_at, children_at, leaves_below_at, place_at}
use Rattle.pm_tree.specs.declared.entry.TreeEntry.{TreeEntry}
use Rattle.pm_tree.specs.declared.fault.TreeFault.{TreeFault}
use Rattle.pm_tree.specs.declared.fault.TreeFault.TheVariants.{TooMany, BadName, Twice, NoParent, TooDeep}

-- one entry: the node's name, its parent's name, and whether it is a device
pub record Entry : Type 0 where
  pub name : List ℕ
  pub parent : List ℕ
  pub leaf : Bool

-- what the code's entry says
abbrev pub entry_of : TreeEntry → Entry
entry_of entry = record { name = string_bytes entry.name; parent = string_bytes entry.parent; leaf = entry.leaf }

abbrev pub entries_of : List TreeEntry → List Entry
entries_of entries = map entry_of entries

-- the entry at a place; past the end one without names
abbrev pub entry_at : List Entry → ℕ → Entry
entry_at entries place = slice_index_or entries place (record { name = []; parent = []; leaf = false })

-- the names of node 0, 1, 2, ..
abbrev pub names_of : List Entry → List (List ℕ)
names_of entries = auctioneer ∷ map (λ entry. entry.name) entries

-- the name of a node
abbrev pub name_of : List Entry → ℕ → List ℕ
name_of entries node = slice_index_or (names_of entries) node []

-- the node that has the name
unfoldable pub node_named : List Entry → List ℕ → Option ℕ
node_named entries name = position (bytes_eq name) (names_of entries)

-- the number of the node with the name, and 0 if no node has it
abbrev pub number_named : List Entry → List ℕ → ℕ
number_named entries name = unwrap_or (node_named entries name) 0

-- the parents of node 1, 2, ..
unfoldable pub parents_of : List Entry → List ℕ
parents_of entries = map (λ entry. number_named entries entry.parent) entries

-- whether node 1, 2, .. is a leaf
unfoldable pub leaves_of : List Entry → List Bool
leaves_of entries = map (λ entry. entry.leaf) entries

-- the parent of a node
abbrev pub parent_of : List Entry → ℕ → ℕ
parent_of entries node = parent_at (parents_of entries) node

-- whether a node is a leaf, which is a device; the auctioneer is none
abbrev pub is_leaf_at : List Entry → ℕ → Bool
is_leaf_at entries node = leaf_at (leaves_of entries) node

-- how many concentrators stand on a node's path to the auctioneer, the node included
abbrev pub depth_of : List Entry → ℕ → ℕ
depth_of entries node = depth_at (parents_of entries) (leaves_of entries) node

-- the nodes whose parent is the node, in list order
abbrev pub children_of : List Entry → ℕ → List ℕ
children_of entries node = children_at (parents_of entries) node

-- the leaves whose path to the auctioneer goes through the node, in list order; of a leaf itself, of the auctioneer all
abbrev pub leaves_below_of : List Entry → ℕ → List ℕ
leaves_below_of entries node = leaves_below_at (parents_of entries) (leaves_of entries) node

-- how many earlier nodes have the node's parent
abbrev pub place_of : List Entry → ℕ → ℕ
place_of entries node = place_at (parents_of entries) node

-- whether the name is that of the auctioneer or of a concentrator
abbrev pub can_be_parent : List Entry → List ℕ → Bool
can_be_parent entries name =
    is_some (node_named entries name) && not (is_leaf_at entries (number_named entries name))

-- the first check that an entry fails, after the entries before it: its name, that no node before has the name,
-- its parent among the nodes before, and that a concentrator has fewer concentrators above it than the most on a path
unfoldable pub entry_refusal : List Entry → Entry → Option TreeFault
entry_refusal before entry =
    if not (is_name entry.name) then Some (BadName (length before + 1))
    else (if is_some (node_named before entry.name) then Some (Twice (length before + 1))
    else (if not (can_be_parent before entry.parent) then Some (NoParent (length before + 1))
    else (if not entry.leaf && nat_le most_depth (depth_of before (number_named before entry.parent))
    then Some (TooDeep (length before + 1)) else None)))

-- the refusals of the entries that fail a check, in list order, each judged by the entries before it
abbrev pub refusals_after : List Entry → List Entry → List TreeFault
refusals_after before [] = []
refusals_after before (entry ∷ rest) =
    option_to_list (entry_refusal before entry) ++ refusals_after (before ++ entry ∷ []) rest

-- the first refusal of a list: that it has more entries than the most nodes, else that of the first entry that fails a
-- check
unfoldable pub first_refusal : List Entry → Option TreeFault
first_refusal entries =
    if nat_lt most_nodes (length entries) then Some (TooMany (length entries)) else slice_get (refusals_after [] entries) 0

-- the tree of a list, or the first refusal of the list
abbrev pub tree_unless : List Entry → Option TreeFault → Result (List Entry) TreeFault
tree_unless entries None = Ok entries
tree_unless entries (Some fault) = Err fault

abbrev pub checked_tree : List Entry → Result (List Entry) TreeFault
checked_tree entries = tree_unless entries (first_refusal entries)

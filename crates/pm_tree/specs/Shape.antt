-- The shape of a tree as two plain lists: the parent of node 1, 2, .., and whether node 1, 2, .. is a leaf.
-- Node 0 is the auctioneer.
use Rattle.std.specs.Prelude.{◌≡◌, ℕ, ◌-◌, ◌<◌, ◌≤◌, zero, suc, Bool, false, ◌&&◌, not, ◌==◌, nat_lt, if◌then◌else◌, List}
use Rattle.std.specs.Prelude.{[], ◌∷◌, length, filter, count_by, take, slice_index_or}
use Rattle.std.specs.List.{list_any, range_with_len}
use Rattle.pm_base.specs.Limits.{most_depth}

-- the parent of a node; of the auctioneer the auctioneer itself
abbrev pub parent_at : List ℕ → ℕ → ℕ
parent_at parents node = slice_index_or (0 ∷ parents) node 0

-- whether a node is a leaf; the auctioneer is none
abbrev pub leaf_at : List Bool → ℕ → Bool
leaf_at leaves node = slice_index_or (false ∷ leaves) node false

-- whether a node is a concentrator: neither the auctioneer nor a leaf
abbrev pub concentrator_at : List Bool → ℕ → Bool
concentrator_at leaves node = nat_lt 0 node && not (leaf_at leaves node)

-- the nodes from a node up to the auctioneer, both included; at most so many levels up are looked at
abbrev pub path_within : ℕ → List ℕ → ℕ → List ℕ
path_within zero parents node = 0 ∷ []
path_within (suc levels) parents node =
    if node == 0 then 0 ∷ [] else node ∷ path_within levels parents (parent_at parents node)

-- the path of a node to the auctioneer: each parent is an earlier node, so it has no more levels than the node's number
unfoldable pub path_at : List ℕ → ℕ → List ℕ
path_at parents node = path_within node parents node

-- whether a node stands on another node's path to the auctioneer
unfoldable pub is_on_path : List ℕ → ℕ → ℕ → Bool
is_on_path parents below node = list_any (λ x. x == node) (path_at parents below)

-- how many concentrators stand on a node's path to the auctioneer, the node included
unfoldable pub depth_at : List ℕ → List Bool → ℕ → ℕ
depth_at parents leaves node = count_by (concentrator_at leaves) (path_at parents node)

-- of the first nodes, so many, those whose parent is the node
abbrev pub children_among : List ℕ → ℕ → ℕ → List ℕ
children_among parents count node = filter (λ child. parent_at parents child == node) (range_with_len 1 count)

-- the nodes whose parent is the node
unfoldable pub children_at : List ℕ → ℕ → List ℕ
children_at parents node = children_among parents (length parents) node

-- of the first nodes, so many, the leaves whose path to the auctioneer goes through the node
abbrev pub leaves_among : List ℕ → List Bool → ℕ → ℕ → List ℕ
leaves_among parents leaves count node =
    filter (λ leaf. leaf_at leaves leaf && is_on_path parents leaf node) (range_with_len 1 count)

-- the leaves whose path to the auctioneer goes through the node; of a leaf itself, of the auctioneer all
unfoldable pub leaves_below_at : List ℕ → List Bool → ℕ → List ℕ
leaves_below_at parents leaves node = leaves_among parents leaves (length parents) node

-- how many earlier nodes have the node's parent
unfoldable pub place_at : List ℕ → ℕ → ℕ
place_at parents node = count_by (λ parent. parent == parent_at parents node) (take (node - 1) parents)

-- a lawful tree: each parent is an earlier node and no leaf, and no path to the auctioneer has more concentrators than
-- the most
pub record IsTree (parents : List ℕ) (leaves : List Bool) : Type 0 where
  pub one_each : length leaves ≡ length parents
  pub earlier : (node : ℕ) → 1 ≤ node → node ≤ length parents → parent_at parents node < node
  pub under_no_leaf : (node : ℕ) → node ≤ length parents → leaf_at leaves (parent_at parents node) ≡ false
  pub shallow : (node : ℕ) → node ≤ length parents → depth_at parents leaves node ≤ most_depth

-- The four lists that a market stands on, and the tree that they give.
use Rattle.std.specs.Prelude.{◌≡◌, ℕ, zero, suc, ◌+◌, ◌<◌, ◌≤◌, Bool}
use Rattle.std.specs.Prelude.{true, false, if◌then◌else◌, ◌==◌, ◌&&◌, ◌||◌, List, []}
use Rattle.std.specs.Prelude.{◌∷◌, length, slice_index_or, unwrap_or}
use Rattle.std.specs.List.{find}
use Rattle.pm_base.specs.Limits.{most_depth}

-- The nodes are numbered from 1 in the order of the lists, and node 0 is the auctioneer. A leaf is a device, every
-- other node a concentrator. The lists are: the parent of each node; which nodes are leaves; whether each device is a
-- member after each of its changes, from the first; and, for each phase, the number of changes of each node at its end.
pub record Lists : Type 0 where
  pub parents : List ℕ
  pub leaves : List Bool
  pub members : List (List Bool)
  pub ends : List (List ℕ)

-- how many nodes there are beside the auctioneer
abbrev pub nodes : Lists → ℕ
nodes lists = length lists.parents

-- how many phases there are
abbrev pub phases : Lists → ℕ
phases lists = length lists.ends

-- the parent of a node; that of the auctioneer is the auctioneer
unfoldable pub parent : Lists → ℕ → ℕ
parent lists x = slice_index_or (0 ∷ lists.parents) x 0

-- whether a node is a device
unfoldable pub is_leaf : Lists → ℕ → Bool
is_leaf lists x = slice_index_or (false ∷ lists.leaves) x false

-- whether a device is a member after its first n changes; after change 0, which is none, no device is
unfoldable pub is_member : Lists → ℕ → ℕ → Bool
is_member lists d n = slice_index_or (false ∷ slice_index_or ([] ∷ lists.members) d []) n false

-- how many changes a device makes
unfoldable pub changes : Lists → ℕ → ℕ
changes lists d = length (slice_index_or ([] ∷ lists.members) d [])

-- how many changes of a device are made at the end of phase p; at the end of phase 0, before the first phase, none
unfoldable pub end_count : Lists → ℕ → ℕ → ℕ
end_count lists p d = slice_index_or (0 ∷ slice_index_or ([] ∷ lists.ends) p []) d 0

-- a device or a concentrator
abbrev pub IsNode : Lists → ℕ → Type 0
IsNode lists x = (1 ≤ x) × (x ≤ nodes lists)

-- a device
abbrev pub IsLeaf : Lists → ℕ → Type 0
IsLeaf lists x = is_leaf lists x ≡ true

-- a concentrator or the auctioneer
abbrev pub IsInner : Lists → ℕ → Type 0
IsInner lists x = is_leaf lists x ≡ false

-- a concentrator
abbrev pub IsConcentrator : Lists → ℕ → Type 0
IsConcentrator lists x = (1 ≤ x) × (x ≤ nodes lists) × (is_leaf lists x ≡ false)

-- whether x is d or stands at most so many levels above d
unfoldable pub is_below_in : Lists → ℕ → ℕ → ℕ → Bool
is_below_in lists zero x d = x == d
is_below_in lists (suc levels) x d = (x == d) || is_below_in lists levels x (parent lists d)

-- whether d is x or stands below x; since parents have smaller numbers, d levels reach every node above d
unfoldable pub is_below : Lists → ℕ → ℕ → Bool
is_below lists x d = is_below_in lists d x d

-- whether d is one of the leaves of x: a device that is x or stands below x
unfoldable pub is_leaf_of : Lists → ℕ → ℕ → Bool
is_leaf_of lists x d = is_leaf lists d && is_below lists x d

abbrev pub IsLeafOf : Lists → ℕ → ℕ → Type 0
IsLeafOf lists x d = is_leaf_of lists x d ≡ true

-- the first nodes, so many, on the way from d up: d, its parent, the parent of that, and so on
unfoldable pub way_up : Lists → ℕ → ℕ → List ℕ
way_up lists zero d = []
way_up lists (suc count) d = d ∷ way_up lists count (parent lists d)

-- the child of y at or above d: of the nodes from d up the first whose parent is y, and 0 if there is none; since
-- parents have smaller numbers, each node on the way up but the auctioneer is among the first d
unfoldable pub child_at_or_above : Lists → ℕ → ℕ → ℕ
child_at_or_above lists y d = unwrap_or (find (λ x. parent lists x == y) (way_up lists d d)) 0

-- how many concentrators stand on the path of so many nodes from x towards the auctioneer, x included
unfoldable pub path_depth_in : Lists → ℕ → ℕ → ℕ
path_depth_in lists zero x = 0
path_depth_in lists (suc levels) x =
    if x == 0 then 0 else ((if is_leaf lists x then 0 else 1) + path_depth_in lists levels (parent lists x))

-- how many concentrators stand on the path from x to the auctioneer, x included
unfoldable pub path_depth : Lists → ℕ → ℕ
path_depth lists x = path_depth_in lists x x

-- lawful lists: what the lists of every plan keep. That no device is a member after change 0 lies in is_member
pub record Lawful (lists : Lists) : Type 0 where
  pub leaves : length lists.leaves ≡ length lists.parents
  -- a parent is the auctioneer or an earlier node, and no leaf
  pub earlier : (x : ℕ) → IsNode lists x → parent lists x < x
  pub inner : (x : ℕ) → IsNode lists x → IsInner lists (parent lists x)
  pub depth : (x : ℕ) → IsNode lists x → path_depth lists x ≤ most_depth
  -- the counts at the phases' ends never fall, and the last are the numbers of changes
  pub ends_rise : (p d : ℕ) → IsLeaf lists d → p < phases lists → end_count lists p d ≤ end_count lists (p + 1) d
  pub ends_last : (d : ℕ) → IsLeaf lists d → end_count lists (phases lists) d ≡ changes lists d

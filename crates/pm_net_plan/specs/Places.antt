-- The places of the children at each node, and sums in the order of the places.
use Rattle.std.specs.Prelude.{◌≡◌, ℕ, zero, suc, ◌-◌, ◌<◌, ◌≤◌, ℤ}
use Rattle.std.specs.Prelude.{if◌then◌else◌, ◌==◌, List, [], ◌∷◌, ◌++◌, length, map}
use Rattle.std.specs.Prelude.{slice_index_or}
use Rattle.std.specs.List.{range_with_len}
use Rattle.pm_base.specs.Limits.{most_nodes}
use Rattle.pm_bid.specs.Bids.{zeros, sum_of}
use Rattle.pm_market.specs.Lists.{Lists, nodes, parent, IsNode}
use Rattle.pm_net.specs.Pricing.{Pricing}

-- ---- numberings

-- the place of each node at its parent, from 0; and the node in a place of a parent, 0 if there is none
pub record Numbering : Type 0 where
  pub place : ℕ → ℕ
  pub child : ℕ → ℕ → ℕ

-- each node has a place of its own, of which a parent has as many as a tree may have nodes
pub record IsNumbering (lists : Lists) (numbering : Numbering) : Type 0 where
  pub inside : (x : ℕ) → IsNode lists x → numbering.place x < most_nodes
  pub there : (x : ℕ) → IsNode lists x → numbering.child (parent lists x) (numbering.place x) ≡ x
  pub child_is : (y k : ℕ) → k < most_nodes → (numbering.child y k ≡ 0 → ⊥) →
      IsNode lists (numbering.child y k) × (parent lists (numbering.child y k) ≡ y) × (numbering.place (numbering.child y k) ≡ k)

-- ---- the numbering of a tree

-- the children of y among the nodes 1 to n, in this order
unfoldable pub children_to : Lists → ℕ → ℕ → List ℕ
children_to lists y zero = []
children_to lists y (suc n) =
    if parent lists (suc n) == y then (children_to lists y n ++ suc n ∷ [])
    else children_to lists y n

-- A node's place is the number of earlier nodes with its parent, so the child in place k is the k-th from 0.
unfoldable pub place_in : Lists → ℕ → ℕ
place_in lists x = length (children_to lists (parent lists x) (x - 1))

unfoldable pub child_in : Lists → ℕ → ℕ → ℕ
child_in lists y k = slice_index_or (children_to lists y (nodes lists)) k 0

abbrev pub places_in : Lists → Numbering
places_in lists = record { place = place_in lists; child = child_in lists }

-- no node has more children than there are places
abbrev pub HasFewChildren : Lists → Type 0
HasFewChildren lists = (y : ℕ) → length (children_to lists y (nodes lists)) ≤ most_nodes

-- ---- sums by places

-- what stands in a place of y: what its child there has, else zeros
abbrev pub demand_in : ℕ → Numbering → ℕ → (ℕ → List ℤ) → ℕ → List ℤ
demand_in steps numbering y f k = if numbering.child y k == 0 then zeros steps else f (numbering.child y k)

unfoldable pub demands_of : ℕ → Numbering → ℕ → (ℕ → List ℤ) → List (List ℤ)
demands_of steps numbering y f = map (demand_in steps numbering y f) (range_with_len 0 most_nodes)

-- the same pricing with all places of a node added up in their order, as a cache of bids adds
abbrev pub added_by_places : Pricing → Numbering → Pricing
added_by_places p numbering = record p { add = λ y f. sum_of p.steps (demands_of p.steps numbering y f) }

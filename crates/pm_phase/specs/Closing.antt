-- Whose ends of links come back, and what the closed links did.
use Rattle.std.specs.Prelude.{◌≡◌, ℕ, ◌<◌, List, map, Option, Some, None, Contains, IfSome, length, slice_index_or}
use Rattle.pm_cells.specs.Ends.{LinkEnd}
use Rattle.pm_cells.specs.Numbers.{AllAmong}
use Rattle.pm_cells.specs.declared.link.LinkLog.{LinkLog}
use Rattle.pm_phase.specs.declared.closing.Places.{Places}
use Rattle.pm_phase.specs.declared.ends.UpEnd.{UpEnd}
use Rattle.pm_phase.specs.declared.ends.DownEnd.{DownEnd}
use Rattle.pm_phase.specs.declared.node.FreeNode.{FreeNode}
use Rattle.pm_phase.specs.declared.node.NodePart.{NodePart}

-- a link that was closed: what was taken was put, whole
pub record TookThose (child parent : LinkEnd) : Type 0 where
  pub bids : AllAmong parent.known.up.received child.known.up.sent
  pub prices : AllAmong child.known.down.received parent.known.down.sent

-- the end of the link in a place to a parent, and the one to a child, that one of the nodes had
pub record ChildFrom (nodes : List FreeNode) (place : ℕ) (end : LinkEnd) : Type 0 where
  pub node : FreeNode
  pub has : Contains nodes node
  pub up : UpEnd
  pub is : node.up ≡ Some up
  pub stands : up.at ≡ place
  pub same : up.end ≡ end

pub record ParentFrom (nodes : List FreeNode) (place : ℕ) (end : LinkEnd) : Type 0 where
  pub node : FreeNode
  pub has : Contains nodes node
  pub down : DownEnd
  pub is : Contains node.downs.items down
  pub stands : down.at ≡ place
  pub same : down.end ≡ end

-- the ends that came back into a place are such ends
pub record IsReturned (nodes : List FreeNode) (place : ℕ) (ends : Places) : Type 0 where
  pub up : IfSome ends.up (ChildFrom nodes place)
  pub down : IfSome ends.down (ParentFrom nodes place)

abbrev pub AreReturned : List FreeNode → List Places → Type 0
AreReturned nodes places = (k : ℕ) (d : Places) → k < length places → IsReturned nodes k (slice_index_or places k d)

-- no end came back
pub record IsEmptyPlace (ends : Places) : Type 0 where
  pub up : ends.up ≡ None
  pub down : ends.down ≡ None

-- the log of a link in a place is that of a link whose ends two of the nodes had
pub record ClosedLink (nodes : List FreeNode) (place : ℕ) (log : LinkLog) : Type 0 where
  pub child : LinkEnd
  pub parent : LinkEnd
  pub child_from : ChildFrom nodes place child
  pub parent_from : ParentFrom nodes place parent
  pub took : TookThose child parent
  pub taken : log.price_takes.items ≡ child.known.down.takes

abbrev pub AreClosed : List FreeNode → List (Option LinkLog) → Type 0
AreClosed nodes logs = (k : ℕ) → k < length logs → IfSome (slice_index_or logs k None) (ClosedLink nodes k)

-- the parts of nodes, in their order
abbrev pub parts_of_nodes : List FreeNode → List NodePart
parts_of_nodes = map (λ node. node.part)

-- What the part of a node is when a phase begins, before and after it is made ready.
use Rattle.std.specs.Prelude.{◌≡◌, ◌⊎◌, ℕ, ◌+◌, ◌<◌, ◌≤◌, List, [], Option, Some, None, IfSome, Contains, length, slice_index_or}
use Rattle.pm_cells.specs.declared.message.UpMessage.{UpMessage}
use Rattle.pm_cells.specs.declared.message.Message.{Message}
use Rattle.pm_plan.specs.Plans.{PlanData}
use Rattle.pm_cells.specs.Ends.{LinkEnd}
use Rattle.pm_cells.specs.declared.message.Message.TheVariants.{Bid}
use Rattle.pm_plan.specs.Plans as plans
use Rattle.pm_tree.specs.Entries.{place_of}
use Rattle.pm_phase.specs.Opening.{PutsAgain}
use Rattle.pm_phase.specs.TellingParents.{bids_among}
use Rattle.pm_phase.specs.declared.ends.UpEnd.{UpEnd}
use Rattle.pm_phase.specs.declared.ends.DownEnd.{DownEnd}
use Rattle.pm_phase.specs.KeepingParents.{IsDownHere, learnt_at}
use Rattle.pm_phase.specs.Matchers.{waiting_at}
use Rattle.pm_phase.specs.Standing.{learnt_of, HadBid}
use Rattle.pm_phase.specs.declared.parent.ParentPart.{ParentPart}
use Rattle.pm_phase.specs.declared.node.Duty.{Duty}
use Rattle.pm_phase.specs.declared.node.Duty.TheVariants.{Device, Parent}
use Rattle.pm_phase.specs.declared.node.FreeNode.{FreeNode}
use Rattle.pm_phase.specs.declared.node.NodePart.{NodePart}

-- a node with children has no price of the phase before that waits, or is to be passed on, and all else as it was
pub record BegunParent (old new : ParentPart) : Type 0 where
  pub matcher : new.matcher ≡ old.matcher
  pub waiting : new.waiting ≡ old.waiting
  pub learnt : new.learnt ≡ old.learnt
  pub pending : new.pending ≡ None
  pub prices : (place : ℕ) → waiting_at new.prices.items place ≡ None

-- a device made none of the changes of the phase
abbrev pub BegunDuty : Duty → Duty → Type 0
BegunDuty (Device old) (Device new) = new ≡ record old { made = 0 }
BegunDuty (Device old) (Parent new) = ⊥
BegunDuty (Parent old) (Device new) = ⊥
BegunDuty (Parent old) (Parent new) = BegunParent old new

-- a node before it has ends is made of one of the parts
pub record StartsFrom (parts : List NodePart) (node : FreeNode) : Type 0 where
  pub part : NodePart
  pub has : Contains parts part
  pub number : node.part.number ≡ part.number
  pub begun : BegunDuty part.duty node.part.duty
  pub no_up : node.up ≡ None
  pub no_downs : node.downs.items ≡ []

-- ---- while the links are opened

-- all but the bids that were learnt last is as when the phase began
pub record OpenedParent (old new : ParentPart) : Type 0 where
  pub matcher : new.matcher ≡ old.matcher
  pub waiting : new.waiting ≡ old.waiting
  pub pending : new.pending ≡ None
  pub prices : (place : ℕ) → waiting_at new.prices.items place ≡ None

abbrev pub OpenedDuty : Duty → Duty → Type 0
OpenedDuty (Device old) (Device new) = new ≡ record old { made = 0 }
OpenedDuty (Device old) (Parent new) = ⊥
OpenedDuty (Parent old) (Device new) = ⊥
OpenedDuty (Parent old) (Parent new) = OpenedParent old new

-- the end of the link above x: nothing was taken from it, and nothing but that bid was put on it
pub record OpenUp (plan : PlanData) (parts : List NodePart) (x : ℕ) (up : UpEnd) : Type 0 where
  pub stands : up.at + 1 ≡ x
  pub received : up.end.known.down.received ≡ []
  pub takes : up.end.known.down.takes ≡ []
  pub sent : (message : Message) → Contains up.end.known.up.sent message → (bid : UpMessage) × (message ≡ Bid bid) × HadBid plan parts x bid

-- the end of the link to the child in a place: no price was put on it, and the bid that was learnt last is as before, or was taken
pub record OpenDown (plan : PlanData) (y : ℕ) (had has : List (Option UpMessage)) (place : ℕ) (down : DownEnd) : Type 0 where
  pub link : IsDownHere plan y place down.at
  pub sent : down.end.known.down.sent ≡ []
  pub learnt : (bid : UpMessage) → learnt_at has place ≡ Some bid →
      (learnt_at had place ≡ Some bid) ⊎ Contains (bids_among down.end.known.up.received) bid

-- a node that was handed some of its ends, and the part that it is made of
pub record IsOpenedNode (plan : PlanData) (parts : List NodePart) (node : FreeNode) : Type 0 where
  pub part : NodePart
  pub has : Contains parts part
  pub number : node.part.number ≡ part.number
  pub begun : OpenedDuty part.duty node.part.duty
  pub up : IfSome node.up (OpenUp plan parts node.part.number)
  pub rest : (k : ℕ) → length node.downs.items ≤ k → learnt_at (learnt_of node.part.duty) k ≡ learnt_at (learnt_of part.duty) k
  pub downs : (k : ℕ) (d : DownEnd) → k < length node.downs.items →
      OpenDown plan node.part.number (learnt_of part.duty) (learnt_of node.part.duty) k (slice_index_or node.downs.items k d)

-- a new link's ends
pub record IsFreshUp (up : UpEnd) : Type 0 where
  pub sent : up.end.known.up.sent ≡ []
  pub received : up.end.known.down.received ≡ []
  pub takes : up.end.known.down.takes ≡ []

pub record IsFreshDown (down : DownEnd) : Type 0 where
  pub received : down.end.known.up.received ≡ []
  pub sent : down.end.known.down.sent ≡ []

-- the bid that a node learnt last from the child in a place was put again on their new link
pub record LearntAgain (place : ℕ) (up up' down down' : LinkEnd) (parent parent' : ParentPart) : Type 0 where
  pub matcher : parent'.matcher ≡ parent.matcher
  pub waiting : parent'.waiting ≡ parent.waiting
  pub pending : parent'.pending ≡ parent.pending
  pub prices : parent'.prices ≡ parent.prices
  pub others : (k : ℕ) → (k ≡ place → ⊥) → learnt_at parent'.learnt.items k ≡ learnt_at parent.learnt.items k
  pub again : PutsAgain up up' down down' (learnt_at parent.learnt.items place) (learnt_at parent'.learnt.items place)

-- two ends are of the link above a node, which is the child in this place of the node above it
pub record IsLinkOf (plan : PlanData) (x y place up_at down_at : ℕ) : Type 0 where
  pub above : y ≡ plans.parent plan x
  pub stands : place ≡ place_of plan.entries x
  pub up : up_at + 1 ≡ x
  pub down : down_at + 1 ≡ x

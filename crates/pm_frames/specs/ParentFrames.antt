-- The frames that a relay or a device has from its parent.
use Rattle.std.specs.Prelude.{◌≡◌, ℕ, ◌+◌, ◌<◌, ◌≤◌, ◌^◌, ◌==◌, if◌then◌else◌, List, [], ◌∷◌, ◌++◌}
use Rattle.std.specs.Prelude.{Option, Some, None}
use Rattle.std.specs.Int.{w16, w32, to_be_bytes}
use Rattle.pm_basis.specs.Prices.{BasisValue}
use Rattle.pm_bid.specs.declared.head.BidHead.{BidHead}
use Rattle.pm_wire.specs.Answers.{answer_bytes}
use Rattle.pm_wire.specs.declared.answer.Reply as Reply
use Rattle.pm_wire.specs.Kinds.{old_kind, old_size}
use Rattle.pm_frames.specs.Kinds.{price_kind, price_size}
use Rattle.pm_frames.specs.NamedBases.{basis_bytes, IsBasisFormed, IsBasisAccepted}
use Rattle.pm_frames.specs.declared.parent.ParentFrame.{ParentFrame}
use Rattle.pm_frames.specs.declared.parent.ParentFrame.TheVariants.{Price, Old}

-- a price: the child, the number of its bid, the index of the clearing, the step, and the basis of which it is a step
abbrev pub price_bytes : ℕ → ℕ → ℕ → ℕ → BasisValue → List ℕ
price_bytes child number index step basis =
    price_kind ∷ (to_be_bytes w16 child ++ (to_be_bytes w32 number ++ (to_be_bytes w32 index ++ (to_be_bytes w16 step ++ basis_bytes basis))))

-- what a parent writes for a child is what the child reads
abbrev pub parent_bytes : ParentFrame → List ℕ
parent_bytes (Price child number index step basis) = price_bytes child number index step basis
parent_bytes (Old child kept) = answer_bytes (Reply.TheVariants.Old child kept)

-- how many bytes a frame of this kind has
abbrev pub parent_size : ℕ → Option ℕ
parent_size kind = if kind == price_kind then Some price_size else (if kind == old_kind then Some old_size else None)

-- each field has its bytes
abbrev pub IsParentFormed : ParentFrame → Type 0
IsParentFormed (Price child number index step basis) =
    (child < 2 ^ 16) × (number < 2 ^ 32) × (index < 2 ^ 32) × (step < 2 ^ 16) × IsBasisFormed basis
IsParentFormed (Old child kept) = (child < 2 ^ 16) × (kept < 2 ^ 32)

-- the frame is for this child, and a price answers a number and has a step of the basis that it names
abbrev pub IsParentAccepted : ℕ → ParentFrame → Type 0
IsParentAccepted own (Price child number index step basis) = (child ≡ own) × (1 ≤ number) × (step < basis.steps) × IsBasisAccepted basis
IsParentAccepted own (Old child kept) = child ≡ own

-- the bytes of a frame that is accepted
pub record IsParentFrameOf (own : ℕ) (bytes : List ℕ) (frame : ParentFrame) : Type 0 where
  pub formed : IsParentFormed frame
  pub accepted : IsParentAccepted own frame
  pub spelled : bytes ≡ parent_bytes frame

-- the bytes of a frame that is refused
pub record IsRefusedParentFrame (own : ℕ) (bytes : List ℕ) : Type 0 where
  pub frame : ParentFrame
  pub formed : IsParentFormed frame
  pub refused : ¬ IsParentAccepted own frame
  pub spelled : bytes ≡ parent_bytes frame

-- the bytes are those of one frame of a parent: of this one, or of one that is refused
abbrev pub IsParentFrame : ℕ → List ℕ → Option ParentFrame → Type 0
IsParentFrame own bytes (Some frame) = IsParentFrameOf own bytes frame
IsParentFrame own bytes None = IsRefusedParentFrame own bytes

-- ---- the prices for all children

-- the price for a child whose newest is a Bid; there is none for a child that is gone
abbrev pub price_bytes_for : BasisValue → ℕ → ℕ → ℕ → BidHead → List ℕ
price_bytes_for basis index step child head = if head.gone then [] else price_bytes child head.number index step basis

-- the prices for children, rising from this one
abbrev pub prices_bytes : BasisValue → ℕ → ℕ → ℕ → List BidHead → List ℕ
prices_bytes basis index step child [] = []
prices_bytes basis index step child (head ∷ heads) =
    price_bytes_for basis index step child head ++ prices_bytes basis index step (child + 1) heads

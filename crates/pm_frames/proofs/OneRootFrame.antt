-- The frames of the stream to an auctioneer that may restart: the first byte of one tells how many it has, and its bytes determine it.
use Rattle.std.proofs.Common.{◌≡◌, ◌∙◌, ap, ℕ, ◌≤◌, List, ◌++◌, length, Option, Some, None, refl, arith}
use Rattle.std.specs.Prelude.{◌==◌, IfSome}
use Rattle.pm_basis.specs.Prices.{BasisValue}
use Rattle.pm_wire.specs.declared.frame.Frame as bids
use Rattle.pm_wire.specs.Framing.{IsFraming, HasSize, MayStand}
use Rattle.pm_wire.specs.Frames.{size_at}
use Rattle.pm_wire.specs.Memory.{frame_limit}
use Rattle.pm_wire.proofs.OneField.{two_same}
use Rattle.pm_wire.proofs.OneFrame.{parts_same, bid_framing_sound}
use Rattle.pm_frames.specs.Kinds.{resume_kind, expire_kind, bound_kind}
use Rattle.pm_frames.specs.Places.{bid_place, IsStage}
use Rattle.pm_frames.specs.Stored.{root_resume_bytes, root_resume_size}
use Rattle.pm_frames.specs.RootFrames.{root_framing, root_frame_bytes, root_size, IsRootFormed, root_stage_after}
use Rattle.pm_frames.specs.declared.place.Stage.{Stage}
use Rattle.pm_frames.specs.declared.place.Stage.TheVariants.{Start, Opened, Running}
use Rattle.pm_frames.specs.declared.root.RootFrame.{RootFrame}
use Rattle.pm_frames.specs.declared.root.RootFrame.TheVariants.{Market, Expire, Bound, Resume}
use Rattle.pm_frames.proofs.FirstBytes.{bid_kind_of, first_same}
use Rattle.pm_frames.proofs.OneNumber.{length-number_bytes}
use Rattle.pm_frames.proofs.OneStored.{root_stored_same, bound_same}
use Rattle.pm_frames.proofs.NodePlaces.{behind_is, after_is}
use Rattle.pm_frames.proofs.Sizes.{either, of_some, if_some}

one_frame : (stage : Stage) (f g : RootFrame) (x y : List ℕ) → IsRootFormed stage f → IsRootFormed stage g →
    root_frame_bytes f ++ x ≡ root_frame_bytes g ++ y → (f ≡ g) × (x ≡ y)
one_frame stage (Market f) (Market g) x y is is' e =
    let same = bid_framing_sound.one_frame (bid_place stage) f g x y is is' e in (ap (λ h. Market h) same.0, same.1)
one_frame stage (Market f) (Expire b) x y is is' e = absurd (omega (arith, bid_kind_of f x, first_same _ _ e))
one_frame stage (Market f) (Bound n k) x y is is' e = absurd (omega (arith, bid_kind_of f x, first_same _ _ e))
one_frame stage (Market f) (Resume b) x y is is' e = absurd (omega (arith, bid_kind_of f x, first_same _ _ e))
one_frame stage (Expire a) (Market g) x y is is' e = absurd (omega (arith, bid_kind_of g y, first_same _ _ e))
one_frame stage (Expire a) (Expire b) x y is is' e =
    let same = two_same a b x y is.1 is'.1 (parts_same _ _ _ _ e).1 in (ap (λ h. Expire h) same.0, same.1)
one_frame stage (Expire a) (Bound n k) x y is is' e = absurd (omega (arith, first_same _ _ e))
one_frame stage (Expire a) (Resume b) x y is is' e = absurd (omega (arith, first_same _ _ e))
one_frame stage (Bound m l) (Market g) x y is is' e = absurd (omega (arith, bid_kind_of g y, first_same _ _ e))
one_frame stage (Bound m l) (Expire b) x y is is' e = absurd (omega (arith, first_same _ _ e))
one_frame stage (Bound m l) (Bound n k) x y is is' e =
    let same = bound_same m l n k x y is.1 is'.1 e in (ap (λ z. Bound z l) same.0 ∙ ap (λ z. Bound n z) same.1, same.2)
one_frame stage (Bound m l) (Resume b) x y is is' e = absurd (omega (arith, first_same _ _ e))
one_frame stage (Resume a) (Market g) x y is is' e = absurd (omega (arith, bid_kind_of g y, first_same _ _ e))
one_frame stage (Resume a) (Expire b) x y is is' e = absurd (omega (arith, first_same _ _ e))
one_frame stage (Resume a) (Bound n k) x y is is' e = absurd (omega (arith, first_same _ _ e))
one_frame stage (Resume a) (Resume b) x y is is' e = let same = root_stored_same a b x y is.1 is'.1 e in (ap (λ h. Resume h) same.0, same.1)

-- a frame of a stream of bids is no Resume, so it has its size there
opened : (known : BasisValue) (frame : bids.Frame) (more : List ℕ) → IsRootFormed (Opened known) (Market frame) →
    HasSize root_framing (Opened known) (root_frame_bytes (Market frame) ++ more) (length (root_frame_bytes (Market frame)))
opened known (bids.TheVariants.Hello basis) more is = absurd is
opened known (bids.TheVariants.Bid child number demand) more is = bid_framing_sound.sized (Some known.steps) (bids.TheVariants.Bid child number demand) more is
opened known (bids.TheVariants.Gone child number) more is = refl
opened known bids.TheVariants.Clear more is = refl

running : (known : BasisValue) (frame : bids.Frame) (more : List ℕ) → IsRootFormed (Running known) (Market frame) →
    HasSize root_framing (Running known) (root_frame_bytes (Market frame) ++ more) (length (root_frame_bytes (Market frame)))
running known (bids.TheVariants.Hello basis) more is = absurd is
running known (bids.TheVariants.Bid child number demand) more is = bid_framing_sound.sized (Some known.steps) (bids.TheVariants.Bid child number demand) more is
running known (bids.TheVariants.Gone child number) more is = refl
running known bids.TheVariants.Clear more is = refl

starting : (frame : bids.Frame) (more : List ℕ) → IsRootFormed Start (Market frame) →
    HasSize root_framing Start (root_frame_bytes (Market frame) ++ more) (length (root_frame_bytes (Market frame)))
starting (bids.TheVariants.Hello basis) more is = refl
starting (bids.TheVariants.Bid child number demand) more is = absurd is
starting (bids.TheVariants.Gone child number) more is = absurd is
starting bids.TheVariants.Clear more is = absurd is

sized : (stage : Stage) (frame : RootFrame) (more : List ℕ) → IsRootFormed stage frame →
    HasSize root_framing stage (root_frame_bytes frame ++ more) (length (root_frame_bytes frame))
sized Start (Market frame) more is = starting frame more is
sized Start (Expire child) more is = absurd is.0
sized Start (Bound child bound) more is = absurd is.0
sized Start (Resume stored) more is = absurd is.0
sized (Opened known) (Market frame) more is = opened known frame more is
sized (Opened known) (Expire child) more is = refl
sized (Opened known) (Bound child bound) more is = refl
sized (Opened known) (Resume stored) more is =
    let size : root_resume_size ≡ length (root_resume_bytes stored) = omega (arith, length-number_bytes stored.numbers, is.1.2.0) in
    ap (λ n. Some n) size
sized (Running known) (Market frame) more is = running known frame more is
sized (Running known) (Expire child) more is = refl
sized (Running known) (Bound child bound) more is = refl
sized (Running known) (Resume stored) more is = absurd is.0

-- what holds of the size of Resume, and of each size of a frame of a stream of bids
size_of : (P : ℕ → Type 0) (stage : Stage) (kind : ℕ) → P 3 → P 11 → P root_resume_size →
    ((size : ℕ) → size_at (bid_place stage) kind ≡ Some size → P size) →
    IfSome (root_size stage kind) P
size_of P Start kind three eleven resume each = if_some P (size_at None kind) each
size_of P (Opened known) kind three eleven resume each =
    let Q : Option ℕ → Type 0 = λ o. IfSome o P in either Q (kind == resume_kind) _ _ resume
    (either Q (kind == expire_kind) _ _ three (either Q (kind == bound_kind) _ _ eleven (if_some P (size_at (Some known.steps) kind) each)))
size_of P (Running known) kind three eleven resume each =
    let Q : Option ℕ → Type 0 = λ o. IfSome o P in
    either Q (kind == expire_kind) _ _ three (either Q (kind == bound_kind) _ _ eleven (if_some P (size_at (Some known.steps) kind) each))

some_bytes : (stage : Stage) (kind size : ℕ) → root_size stage kind ≡ Some size → 1 ≤ size
some_bytes stage kind size is =
    let P : ℕ → Type 0 = λ n. 1 ≤ n in
    of_some P _ size (size_of P stage kind (omega arith) (omega arith) (omega arith) (bid_framing_sound.some_bytes (bid_place stage) kind)) is

few_bytes : (stage : Stage) (kind size : ℕ) → IsStage stage → root_size stage kind ≡ Some size → size ≤ frame_limit
few_bytes stage kind size is_stage is =
    let P : ℕ → Type 0 = λ n. n ≤ frame_limit in
    of_some P _ size (size_of P stage kind (omega arith) (omega arith) (omega arith) (λ n. bid_framing_sound.few_bytes (bid_place stage) kind n is_stage)) is

leads_on : (stage : Stage) (frame : RootFrame) → IsStage stage → MayStand root_framing stage frame → IsStage (root_stage_after stage frame)
leads_on stage (Market frame) is stands = after_is stage frame is (record { formed = stands.formed; accepted = stands.accepted })
leads_on stage (Expire child) is stands = behind_is stage is
leads_on stage (Bound child bound) is stands = behind_is stage is
leads_on stage (Resume stored) is stands = behind_is stage is

-- the frames of the stream to an auctioneer are a framing
pub root_framing_sound : IsFraming root_framing
root_framing_sound = record {
  sized = sized;
  some_bytes = some_bytes;
  few_bytes = few_bytes;
  one_frame = one_frame;
  not_empty = omega arith;
  leads_on = leads_on;
}

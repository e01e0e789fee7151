-- The frames of the stream to an auctioneer that may restart: those of a stream of bids, Expire, Bound, and Resume directly
-- after Hello.
use Rattle.std.specs.Prelude.{ℕ, ◌==◌, if◌then◌else◌, List, Option, Some, None}
use Rattle.pm_wire.specs.Frames.{size_at, frame_bytes, IsFormed, IsAccepted}
use Rattle.pm_wire.specs.Framing.{Framing}
use Rattle.pm_wire.specs.Memory.{frame_limit}
use Rattle.pm_frames.specs.Kinds.{resume_kind, expire_kind, bound_kind, expire_size, bound_size}
use Rattle.pm_frames.specs.Expiries.{expire_bytes, IsExpireFormed, IsExpireAccepted}
use Rattle.pm_frames.specs.Places.{bid_place, IsOpen, IsFresh, stage_behind, stage_after, IsStage}
use Rattle.pm_frames.specs.LimitsFrames.{bound_bytes, IsBoundFormed, IsBoundAccepted}
use Rattle.pm_frames.specs.Stored.{root_resume_bytes, root_resume_size, IsRootStored, IsRootStoredAccepted}
use Rattle.pm_frames.specs.declared.place.Stage.{Stage}
use Rattle.pm_frames.specs.declared.place.Stage.TheVariants.{Start, Opened, Running}
use Rattle.pm_frames.specs.declared.root.RootFrame.{RootFrame}
use Rattle.pm_frames.specs.declared.root.RootFrame.TheVariants.{Market, Expire, Bound, Resume}

abbrev pub root_frame_bytes : RootFrame → List ℕ
root_frame_bytes (Market frame) = frame_bytes frame
root_frame_bytes (Expire child) = expire_bytes child
root_frame_bytes (Bound child bound) = bound_bytes child bound
root_frame_bytes (Resume stored) = root_resume_bytes stored

-- how many bytes a frame of this kind has after Hello
abbrev pub root_size_open : ℕ → ℕ → Option ℕ
root_size_open steps kind =
    if kind == expire_kind then Some expire_size else (if kind == bound_kind then Some bound_size else size_at (Some steps) kind)

-- how many bytes a frame of this kind has at a stage, if it may stand there
abbrev pub root_size : Stage → ℕ → Option ℕ
root_size Start kind = size_at None kind
root_size (Opened basis) kind = if kind == resume_kind then Some root_resume_size else root_size_open basis.steps kind
root_size (Running basis) kind = root_size_open basis.steps kind

abbrev pub IsRootFormed : Stage → RootFrame → Type 0
IsRootFormed stage (Market frame) = IsFormed (bid_place stage) frame
IsRootFormed stage (Expire child) = IsOpen stage × IsExpireFormed child
IsRootFormed stage (Bound child bound) = IsOpen stage × IsBoundFormed child bound
IsRootFormed stage (Resume stored) = IsFresh stage × IsRootStored stored

abbrev pub IsRootAccepted : Stage → RootFrame → Type 0
IsRootAccepted stage (Market frame) = IsAccepted frame
IsRootAccepted stage (Expire child) = IsExpireAccepted child
IsRootAccepted stage (Bound child bound) = IsBoundAccepted child bound
IsRootAccepted stage (Resume stored) = IsRootStoredAccepted stage stored

abbrev pub root_stage_after : Stage → RootFrame → Stage
root_stage_after stage (Market frame) = stage_after stage frame
root_stage_after stage (Expire child) = stage_behind stage
root_stage_after stage (Bound child bound) = stage_behind stage
root_stage_after stage (Resume stored) = stage_behind stage

-- the frames of the stream to an auctioneer that may restart
abbrev pub root_framing : Framing Stage RootFrame
root_framing = record {
  size_at = root_size;
  frame_bytes = root_frame_bytes;
  place_after = root_stage_after;
  IsFormed = IsRootFormed;
  IsAccepted = IsRootAccepted;
  IsPlace = IsStage;
  most_bytes = frame_limit;
}

-- The frames of the stream to a device's agent: Hello, what it comes back with, those of the device's control, and its parent's.
use Rattle.std.specs.Prelude.{ℕ, ◌+◌, ◌*◌, ◌==◌, if◌then◌else◌, List, [], ◌∷◌, Option}
use Rattle.std.specs.Prelude.{Some, None, ⊤}
use Rattle.pm_base.specs.Limits.{most_steps}
use Rattle.pm_wire.specs.declared.frame.Frame as bids
use Rattle.pm_wire.specs.Kinds.{hello_kind, old_kind, hello_size, old_size}
use Rattle.pm_wire.specs.Frames.{frame_bytes, IsFormed, IsAccepted}
use Rattle.pm_wire.specs.Framing.{Framing}
use Rattle.pm_frames.specs.Kinds.{price_kind, resume_kind, offer_kind, leave_kind, resume_gone_kind, kind_kind, state_kind}
use Rattle.pm_frames.specs.Kinds.{leave_size, price_size, kind_size, state_size, resume_gone_size}
use Rattle.pm_frames.specs.NamedKinds.{kind_bytes, kind_of_named, IsKindFormed, IsValidKind}
use Rattle.pm_frames.specs.OfferForms.{offer_bytes, points_size, IsOfferFormed, IsOfferAccepted}
use Rattle.pm_frames.specs.Places.{bid_place, steps_at, IsOpen, IsFresh, stage_behind, with_stage, with_kind, IsNodePlace}
use Rattle.pm_frames.specs.ParentFrames.{parent_bytes, IsParentFormed, IsParentAccepted}
use Rattle.pm_frames.specs.Stored.{agent_resume_bytes, IsAgentStored, IsAgentStoredAccepted}
use Rattle.pm_frames.specs.declared.place.NodePlace.{NodePlace}
use Rattle.pm_frames.specs.declared.place.Stage.{Stage}
use Rattle.pm_frames.specs.declared.place.Stage.TheVariants.{Start, Opened, Running}
use Rattle.pm_frames.specs.declared.device.DeviceFrame.{DeviceFrame}
use Rattle.pm_frames.specs.declared.device.DeviceFrame.TheVariants.{Hello, Offer, Kind, Leave, Parent, Resume}

abbrev pub device_frame_bytes : DeviceFrame → List ℕ
device_frame_bytes (Hello basis) = frame_bytes (bids.TheVariants.Hello basis)
device_frame_bytes (Offer form demand) = offer_bytes form demand
device_frame_bytes (Kind named) = kind_bytes named
device_frame_bytes Leave = leave_kind ∷ []
device_frame_bytes (Parent frame) = parent_bytes frame
device_frame_bytes (Resume stored) = agent_resume_bytes stored

-- how many bytes a frame of this kind has after Hello
abbrev pub device_size_open : ℕ → ℕ → Option ℕ
device_size_open steps kind =
    if kind == offer_kind
    then Some (1 + 4 * steps)
    else (if kind == leave_kind
    then Some leave_size
    else (if kind == price_kind
    then Some price_size
    else (if kind == old_kind
    then Some old_size
    else (if kind == kind_kind then Some kind_size else (if kind == state_kind then Some state_size else points_size kind)))))

-- and directly after it, where what the agent comes back with may stand
abbrev pub device_size_fresh : ℕ → ℕ → Option ℕ
device_size_fresh steps kind =
    if kind == resume_kind
    then Some (resume_gone_size + 4 * steps)
    else (if kind == resume_gone_kind then Some resume_gone_size else device_size_open steps kind)

-- Hello stands first and only there
abbrev pub device_size : Stage → ℕ → Option ℕ
device_size Start kind = if kind == hello_kind then Some hello_size else None
device_size (Opened basis) kind = device_size_fresh basis.steps kind
device_size (Running basis) kind = device_size_open basis.steps kind

-- a frame of a kind that may stand at this place, each of whose fields has its bytes
abbrev pub IsDeviceFormed : NodePlace → DeviceFrame → Type 0
IsDeviceFormed place (Hello basis) = IsFormed (bid_place place.stage) (bids.TheVariants.Hello basis)
IsDeviceFormed place (Offer form demand) = IsOpen place.stage × IsOfferFormed place form demand
IsDeviceFormed place (Kind named) = IsOpen place.stage × IsKindFormed named
IsDeviceFormed place Leave = IsOpen place.stage
IsDeviceFormed place (Parent frame) = IsOpen place.stage × IsParentFormed frame
IsDeviceFormed place (Resume stored) = IsFresh place.stage × IsAgentStored (steps_at place.stage) stored

-- the fields are accepted: an offer is a bid, and a kind is one with parameters within their limits
abbrev pub IsDeviceAccepted : NodePlace → DeviceFrame → Type 0
IsDeviceAccepted place (Hello basis) = IsAccepted (bids.TheVariants.Hello basis)
IsDeviceAccepted place (Offer form demand) = IsOfferAccepted place form demand
IsDeviceAccepted place (Kind named) = IsValidKind (kind_of_named named)
IsDeviceAccepted place Leave = ⊤
IsDeviceAccepted place (Parent frame) = IsParentAccepted place.child frame
IsDeviceAccepted place (Resume stored) = IsAgentStoredAccepted place.stage stored

-- a kind holds until the next one
abbrev pub device_place_after : NodePlace → DeviceFrame → NodePlace
device_place_after place (Hello basis) = with_stage place (Opened basis)
device_place_after place (Offer form demand) = with_stage place (stage_behind place.stage)
device_place_after place (Kind named) = with_kind place (stage_behind place.stage) (kind_of_named named)
device_place_after place Leave = with_stage place (stage_behind place.stage)
device_place_after place (Parent frame) = with_stage place (stage_behind place.stage)
device_place_after place (Resume stored) = with_stage place (stage_behind place.stage)

-- the most bytes of a frame: a Resume over the most steps
abbrev pub device_frame_limit : ℕ
device_frame_limit = resume_gone_size + 4 * most_steps

-- the frames of the stream to a device's agent
abbrev pub device_framing : Framing NodePlace DeviceFrame
device_framing = record {
  size_at = λ place kind. device_size place.stage kind;
  frame_bytes = device_frame_bytes;
  place_after = device_place_after;
  IsFormed = IsDeviceFormed;
  IsAccepted = IsDeviceAccepted;
  IsPlace = IsNodePlace;
  most_bytes = device_frame_limit;
}

-- The frames of the stream to a relay: its children's as they stand in a stream of bids, except Clear; its parent's; Send, Expire, Limits,
-- Bound and Resume.
use Rattle.std.specs.Prelude.{◌≡◌, ℕ, ◌+◌, ◌*◌, ◌==◌, if◌then◌else◌, List, [], ◌∷◌, Option, Some, None, ⊤}
use Rattle.pm_wire.specs.declared.frame.Frame.{Frame}
use Rattle.pm_wire.specs.declared.frame.Frame.TheVariants.{Hello, Bid, Gone, Clear}
use Rattle.pm_wire.specs.Kinds.{hello_kind, bid_kind, gone_kind, old_kind, hello_size, bid_head_size, gone_size, old_size}
use Rattle.pm_wire.specs.Frames.{frame_bytes, IsFormed, IsAccepted}
use Rattle.pm_wire.specs.Framing.{Framing}
use Rattle.pm_wire.specs.Memory.{frame_limit}
use Rattle.pm_frames.specs.Kinds.{price_kind, send_kind, resume_kind, expire_kind, limits_kind, bound_kind}
use Rattle.pm_frames.specs.Kinds.{price_size, send_size, expire_size, limits_size, bound_size}
use Rattle.pm_frames.specs.Expiries.{expire_bytes, IsExpireFormed, IsExpireAccepted}
use Rattle.pm_frames.specs.Places.{bid_place, IsOpen, IsFresh, stage_behind, stage_after, with_relay_stage, IsRelayPlace}
use Rattle.pm_frames.specs.ParentFrames.{parent_bytes, IsParentFormed, IsParentAccepted}
use Rattle.pm_frames.specs.Stored.{relay_resume_bytes, relay_resume_size, IsRelayStored, IsRelayStoredAccepted}
use Rattle.pm_frames.specs.LimitsFrames.{given_bytes, IsGivenFormed, IsGivenAccepted, bound_bytes, IsBoundFormed, IsBoundAccepted}
use Rattle.pm_frames.specs.declared.terms.RelayTerms.{RelayTerms}
use Rattle.pm_frames.specs.declared.place.RelayPlace.{RelayPlace}
use Rattle.pm_frames.specs.declared.place.Stage.{Stage}
use Rattle.pm_frames.specs.declared.place.Stage.TheVariants.{Start, Opened, Running}
use Rattle.pm_frames.specs.declared.relay.RelayFrame.{RelayFrame}
use Rattle.pm_frames.specs.declared.relay.RelayFrame.TheVariants.{Child, Parent, Send, Expire, Limits, Bound, Resume}

abbrev pub relay_frame_bytes : RelayFrame → List ℕ
relay_frame_bytes (Child frame) = frame_bytes frame
relay_frame_bytes (Parent frame) = parent_bytes frame
relay_frame_bytes Send = send_kind ∷ []
relay_frame_bytes (Expire child) = expire_bytes child
relay_frame_bytes (Limits number limits) = given_bytes number limits
relay_frame_bytes (Bound child bound) = bound_bytes child bound
relay_frame_bytes (Resume stored) = relay_resume_bytes stored

-- how many bytes a frame of this kind has after Hello
abbrev pub relay_size_open : ℕ → ℕ → Option ℕ
relay_size_open steps kind =
    if kind == bid_kind
    then Some (bid_head_size + 4 * steps)
    else (if kind == gone_kind
    then Some gone_size
    else (if kind == price_kind
    then Some price_size
    else (if kind == old_kind
    then Some old_size
    else (if kind == send_kind
    then Some send_size
    else (if kind == expire_kind
    then Some expire_size
    else (if kind == limits_kind then Some limits_size else (if kind == bound_kind then Some bound_size else None)))))))

-- Hello stands first and only there, and Resume directly after it
abbrev pub relay_size : Stage → ℕ → Option ℕ
relay_size Start kind = if kind == hello_kind then Some hello_size else None
relay_size (Opened basis) kind = if kind == resume_kind then Some relay_resume_size else relay_size_open basis.steps kind
relay_size (Running basis) kind = relay_size_open basis.steps kind

-- a frame of a child
abbrev pub IsOfChild : Frame → Type 0
IsOfChild (Hello basis) = ⊤
IsOfChild (Bid child number demand) = ⊤
IsOfChild (Gone child number) = ⊤
IsOfChild Clear = ⊥

-- a frame of a kind that may stand at this place, each of whose fields has its bytes
abbrev pub IsRelayFormed : RelayPlace → RelayFrame → Type 0
IsRelayFormed place (Child frame) = IsFormed (bid_place place.stage) frame × IsOfChild frame
IsRelayFormed place (Parent frame) = IsOpen place.stage × IsParentFormed frame
IsRelayFormed place Send = IsOpen place.stage
IsRelayFormed place (Expire child) = IsOpen place.stage × IsExpireFormed child
IsRelayFormed place (Limits number limits) = IsOpen place.stage × IsGivenFormed number limits
IsRelayFormed place (Bound child bound) = IsOpen place.stage × IsBoundFormed child bound
IsRelayFormed place (Resume stored) = IsFresh place.stage × IsRelayStored stored

-- no child has the place in which limits are given
abbrev pub IsForChild : RelayTerms → Frame → Type 0
IsForChild terms (Hello basis) = ⊤
IsForChild terms (Bid child number demand) = ¬ (terms.giver ≡ Some child)
IsForChild terms (Gone child number) = ¬ (terms.giver ≡ Some child)
IsForChild terms Clear = ⊤

-- the fields are accepted: limits come where there is a place in which they are given, and a child's frames from another place
abbrev pub IsRelayAccepted : RelayPlace → RelayFrame → Type 0
IsRelayAccepted place (Child frame) = IsAccepted frame × IsForChild place.terms frame
IsRelayAccepted place (Parent frame) = IsParentAccepted place.child frame
IsRelayAccepted place Send = ⊤
IsRelayAccepted place (Expire child) = IsExpireAccepted child × ¬ (place.terms.giver ≡ Some child)
IsRelayAccepted place (Limits number limits) = ¬ (place.terms.giver ≡ None) × IsGivenAccepted number limits
IsRelayAccepted place (Bound child bound) = IsBoundAccepted child bound × ¬ (place.terms.giver ≡ Some child)
IsRelayAccepted place (Resume stored) = IsRelayStoredAccepted place.stage place.terms stored

abbrev pub relay_place_after : RelayPlace → RelayFrame → RelayPlace
relay_place_after place (Child frame) = with_relay_stage place (stage_after place.stage frame)
relay_place_after place (Parent frame) = with_relay_stage place (stage_behind place.stage)
relay_place_after place Send = with_relay_stage place (stage_behind place.stage)
relay_place_after place (Expire child) = with_relay_stage place (stage_behind place.stage)
relay_place_after place (Limits number limits) = with_relay_stage place (stage_behind place.stage)
relay_place_after place (Bound child bound) = with_relay_stage place (stage_behind place.stage)
relay_place_after place (Resume stored) = with_relay_stage place (stage_behind place.stage)

-- the frames of the stream to a relay
abbrev pub relay_framing : Framing RelayPlace RelayFrame
relay_framing = record {
  size_at = λ place kind. relay_size place.stage kind;
  frame_bytes = relay_frame_bytes;
  place_after = relay_place_after;
  IsFormed = IsRelayFormed;
  IsAccepted = IsRelayAccepted;
  IsPlace = IsRelayPlace;
  most_bytes = frame_limit;
}

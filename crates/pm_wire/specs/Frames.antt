-- The frames of a stream of bids as bytes. Fields have the most significant byte first; signed ones are in two's complement.
use Rattle.std.specs.Prelude.{◌≡◌, ℕ, ◌+◌, ◌*◌, ◌<◌, ◌≤◌, ◌^◌, ◌==◌, ℤ, pos, List, [], ◌∷◌, ◌++◌, length}
use Rattle.std.specs.Prelude.{Option, Some, None, Ok, ⊤, IfSome, FitsSigned, if◌then◌else◌}
use Rattle.std.specs.Int.{w16, w32, to_be_bytes, cast_unsigned}
use Rattle.std.specs.List.{flat_map, AllByRecursion}
use Rattle.pm_base.specs.Limits.{AreSteps, most_nodes}
use Rattle.pm_basis.specs.Prices.{checked_basis}
use Rattle.pm_bid.specs.Checks.{checked_bid}
use Rattle.pm_wire.specs.Framing as framing
use Rattle.pm_wire.specs.Kinds.{hello_kind, hello_size, bid_kind, bid_head_size, gone_kind, gone_size, clear_kind, clear_size}
use Rattle.pm_wire.specs.Memory.{frame_limit}
use Rattle.pm_wire.specs.declared.frame.Frame.{Frame}
use Rattle.pm_wire.specs.declared.frame.Frame.TheVariants.{Hello, Bid, Gone, Clear}

-- ---- the bytes of a frame

-- a price or a demand as four bytes
abbrev pub signed_bytes : ℤ → List ℕ
signed_bytes number = to_be_bytes w32 (cast_unsigned w32 number)

-- the demands of a bid, one behind the other
abbrev pub demand_bytes : List ℤ → List ℕ
demand_bytes demand = flat_map signed_bytes demand

-- the bytes of a frame
abbrev pub frame_bytes : Frame → List ℕ
frame_bytes (Hello basis) = hello_kind ∷ (signed_bytes basis.min ++ (signed_bytes basis.max ++ to_be_bytes w16 basis.steps))
frame_bytes (Bid child number demand) = bid_kind ∷ (to_be_bytes w16 child ++ (to_be_bytes w32 number ++ demand_bytes demand))
frame_bytes (Gone child number) = gone_kind ∷ (to_be_bytes w16 child ++ to_be_bytes w32 number)
frame_bytes Clear = clear_kind ∷ []

-- ---- which frame may stand where

-- A place in the stream: None before Hello, and behind it the number of steps that its basis has. The place behind a frame:
abbrev pub place_after : Option ℕ → Frame → Option ℕ
place_after place (Hello basis) = Some basis.steps
place_after place (Bid child number demand) = place
place_after place (Gone child number) = place
place_after place Clear = place

-- how many bytes a frame of this kind has at a place, if it may stand there: Hello stands first and only there, and a bid
-- has a demand for each step
abbrev pub size_at : Option ℕ → ℕ → Option ℕ
size_at None kind = if kind == hello_kind then Some hello_size else None
size_at (Some steps) kind =
    if kind == bid_kind
    then Some (bid_head_size + 4 * steps)
    else (if kind == gone_kind then Some gone_size else (if kind == clear_kind then Some clear_size else None))

-- a frame of a kind that may stand at this place, each of whose fields has its bytes
abbrev pub IsFormed : Option ℕ → Frame → Type 0
IsFormed None (Hello basis) = FitsSigned w32 basis.min × FitsSigned w32 basis.max × (basis.steps < 2 ^ 16)
IsFormed (Some steps) (Bid child number demand) =
    (child < 2 ^ 16) × (number < 2 ^ 32) × (length demand ≡ steps) × AllByRecursion (λ z. FitsSigned w32 z) demand
IsFormed (Some steps) (Gone child number) = (child < 2 ^ 16) × (number < 2 ^ 32)
IsFormed (Some steps) Clear = ⊤
IsFormed place frame = ⊥

-- a child of the auctioneer, and the number of a bid
abbrev pub IsSender : ℕ → ℕ → Type 0
IsSender child number = (1 ≤ child) × (child ≤ most_nodes) × (1 ≤ number)

-- the fields of a frame are accepted: those of Hello are a basis, those of a bid are of a child, have a number above 0, and
-- are a bid of so many steps
abbrev pub IsAccepted : Frame → Type 0
IsAccepted (Hello basis) = checked_basis basis.min basis.max (pos basis.steps) ≡ Ok basis
IsAccepted (Bid child number demand) = IsSender child number × (checked_bid (length demand) demand ≡ Ok demand)
IsAccepted (Gone child number) = IsSender child number
IsAccepted Clear = ⊤

-- a place in the stream of bids: a basis behind Hello, nothing before it
abbrev pub IsBidPlace : Option ℕ → Type 0
IsBidPlace place = IfSome place AreSteps

-- the frames of a stream of bids
abbrev pub bid_framing : framing.Framing (Option ℕ) Frame
bid_framing = record {
  size_at = size_at;
  frame_bytes = frame_bytes;
  place_after = place_after;
  IsFormed = IsFormed;
  IsAccepted = λ place frame. IsAccepted frame;
  IsPlace = IsBidPlace;
  most_bytes = frame_limit;
}

-- ---- streams of bids, from their first byte on

-- the frame may stand at this place
abbrev pub MayStand : Option ℕ → Frame → Type 0
MayStand place frame = framing.MayStand bid_framing place frame

-- the bytes of frames, one behind the other
abbrev pub stream_bytes : List Frame → List ℕ
stream_bytes frames = framing.stream_bytes bid_framing frames

-- the bytes begin with these frames, and this is what stands behind them
abbrev pub BeginsWith : List ℕ → List Frame → List ℕ → Type 0
BeginsWith bytes frames rest = framing.BeginsWith bid_framing None bytes frames rest

-- the bytes are a list of frames
abbrev pub AreFrames : List ℕ → List Frame → Type 0
AreFrames bytes frames = framing.AreFrames bid_framing None bytes frames

-- the bytes have a bad frame, and so many bytes stand before it
abbrev pub HasBadFrame : List ℕ → ℕ → Type 0
HasBadFrame bytes offset = framing.HasBadFrame bid_framing None bytes offset

-- the bytes end within a frame, and so many bytes stand before it
abbrev pub EndsWithin : List ℕ → ℕ → Type 0
EndsWithin bytes offset = framing.EndsWithin bid_framing None bytes offset

-- the place behind frames of which the first stands at this place
abbrev pub place_behind : Option ℕ → List Frame → Option ℕ
place_behind place frames = framing.place_behind bid_framing place frames

-- no further frame is whole at this place: the bytes are less than one, or begin badly
abbrev pub Stops : Option ℕ → List ℕ → Type 0
Stops place rest = framing.Stops bid_framing place rest

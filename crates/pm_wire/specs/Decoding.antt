-- What a decoder keeps of a stream of frames, and what its calls do.
use Rattle.std.specs.Prelude.{◌≡◌, ℕ, ◌+◌, ◌*◌, ◌≤◌, Bool, true, false, List, [], ◌++◌, length, drop, Option, None}
use Rattle.pm_wire.specs.Framing.{Framing, MayStand, BeginsBadly}

-- The frames given so far have `offset` bytes, and `place` is the place behind them; `rest` are the bytes fed that belong to
-- no frame given. Where `refused` is set, a bad frame was told. `held` counts the bytes that are in memory: the rest, and those
-- of frames given that were not let go yet.
pub record Decoding (P : Type 0) : Type 0 where
  pub offset : ℕ
  pub place : P
  pub rest : List ℕ
  pub refused : Bool
  pub held : ℕ

-- nothing was fed, and the first frame is to stand at this place
abbrev pub nothing_fed_at : {P : Type 0} → P → Decoding P
nothing_fed_at place = record { offset = 0; place = place; rest = []; refused = false; held = 0 }

-- the same of a stream of bids
abbrev pub nothing_fed : Decoding (Option ℕ)
nothing_fed = nothing_fed_at None

-- one more piece was fed
abbrev pub with_piece : {P : Type 0} → Decoding P → List ℕ → Decoding P
with_piece decoding piece = record decoding { rest = decoding.rest ++ piece; held = decoding.held + length piece }

-- a bad frame was told
abbrev pub with_refusal : {P : Type 0} → Decoding P → Decoding P
with_refusal decoding = record decoding { refused = true }

-- the frame may stand where the bytes left begin, and its bytes are their first; they were taken off
pub record GivesFrame {P F : Type 0} (framing : Framing P F) (old : Decoding P) (frame : F) (new : Decoding P) : Type 0 where
  pub stands : MayStand framing old.place frame
  pub bytes : old.rest ≡ framing.frame_bytes frame ++ new.rest
  pub offset : new.offset ≡ old.offset + length (framing.frame_bytes frame)
  pub place : new.place ≡ framing.place_after old.place frame
  pub refused : new.refused ≡ false
  pub none_refused : old.refused ≡ false

-- of the bytes in memory at most half are of frames given
abbrev pub HoldsLittle : {P : Type 0} → Decoding P → Type 0
HoldsLittle decoding = decoding.held ≤ 2 * length decoding.rest

-- what the fields of a decoder keep: the first `start` bytes of the buffer are of frames given, and at most half of all are; where a bad
-- frame was told, the bytes left begin with it
pub record AreDecoderFields {P F : Type 0} (framing : Framing P F) (start : ℕ) (buffer : List ℕ) (place : P) (refused : Bool) : Type 0 where
  pub within : start ≤ length buffer
  pub half : 2 * start ≤ length buffer
  pub is_place : framing.IsPlace place
  pub bad : refused ≡ true → BeginsBadly framing place (drop start buffer)

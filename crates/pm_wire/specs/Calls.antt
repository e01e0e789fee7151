-- The calls of a decoder, one after the other, with what each answered.
use Rattle.std.specs.Prelude.{◌≡◌, ◌⊎◌, ℕ, ◌<◌, true, List, [], ◌∷◌, ◌++◌, length, Option, Some, None, Result, Ok, Err}
use Rattle.std.specs.Prelude.{IfOk, IfErr, IfSome, IfNone, OnOk, OnErr}
use Rattle.pm_wire.specs.Framing.{Framing, MayStand, IsUnfinished, BeginsBadly}
use Rattle.pm_wire.specs.Decoding.{Decoding, with_piece, with_refusal, GivesFrame, HoldsLittle}
use Rattle.pm_wire.specs.declared.fault.DecodeFault.{DecodeFault}
use Rattle.pm_wire.specs.declared.fault.DecodeFault.TheVariants.{Bad, NoMemory}

-- a call: a piece was fed; the next frame was given; no frame is whole and none is bad; the frame at an offset is bad; an allocation failed
pub data Call (F : Type 0) : Type 0 where
  feeds : List ℕ → Call F
  gives : F → Call F
  waits : Call F
  refuses : ℕ → Call F
  fails : Call F

-- a call of `feed`, by what it answered
abbrev pub feed_call : {F E : Type 0} → List ℕ → Result (Unit {0}) E → Call F
feed_call piece (Ok done) = feeds piece
feed_call piece (Err fault) = fails

-- a call of `next`, by what it answered
abbrev pub next_call : {F : Type 0} → Result (Option F) DecodeFault → Call F
next_call (Ok (Some frame)) = gives frame
next_call (Ok None) = waits
next_call (Err (Bad at)) = refuses at
next_call (Err NoMemory) = fails

-- what a call makes of a decoder
abbrev pub MakesCall : {P F : Type 0} → Framing P F → Decoding P → Call F → Decoding P → Type 0
MakesCall framing old (feeds piece) new = new ≡ with_piece old piece
MakesCall framing old (gives frame) new = GivesFrame framing old frame new
MakesCall framing old waits new = IsUnfinished framing old.place old.rest × (new ≡ old)
MakesCall framing old (refuses at) new = (at ≡ old.offset) × BeginsBadly framing old.place old.rest × (new ≡ with_refusal old)
MakesCall framing old fails new = new ≡ old

-- ---- what a call says, whichever memory it asks

-- What feeding a piece answers. Where an allocation fails nothing changes.
pub record FeedsPiece {P F E : Type 0} (framing : Framing P F) (old : Decoding P) (piece : List ℕ) (result : Result (Unit {0}) E) (new : Decoding P) :
    Type 0 where
  pub fed : OnOk result (new ≡ with_piece old piece)
  pub unchanged : OnErr result (new ≡ old)
  pub little : HoldsLittle new
  -- the call as one of a list
  pub call : MakesCall framing old (feed_call piece result) new

-- What asking for the next frame answers: it, or None where the bytes left are less than a frame and no bad frame shows. Where a bad frame
-- is next the answer is its offset. Where an allocation fails nothing changes.
pub record GivesNext {P F : Type 0} (framing : Framing P F) (old : Decoding P) (result : Result (Option F) DecodeFault) (new : Decoding P) : Type 0 where
  pub given : IfOk result (λ next. IfSome next (λ frame. GivesFrame framing old frame new))
  pub nothing : IfOk result (λ next. IfNone next (IsUnfinished framing old.place old.rest × (new ≡ old)))
  pub bad : IfErr result (λ fault. (at : ℕ) → fault ≡ Bad at →
      (at ≡ old.offset) × BeginsBadly framing old.place old.rest × (new ≡ with_refusal old))
  pub no_memory : result ≡ Err NoMemory → new ≡ old
  -- if the cause of one of these answers holds, that answer comes, or an allocation failed
  pub gives : (frame : F) (more : List ℕ) → MayStand framing old.place frame → old.rest ≡ framing.frame_bytes frame ++ more →
      (result ≡ Ok (Some frame)) ⊎ (result ≡ Err NoMemory)
  pub waits : IsUnfinished framing old.place old.rest → (result ≡ Ok None) ⊎ (result ≡ Err NoMemory)
  pub refuses : BeginsBadly framing old.place old.rest → (result ≡ Err (Bad old.offset)) ⊎ (result ≡ Err NoMemory)
  -- once a bad frame was told, each later call tells it again
  pub always : old.refused ≡ true → result ≡ Err (Bad old.offset)
  -- the bytes of frames given are let go, and None leaves less than a frame
  pub little : HoldsLittle new
  pub short : IfOk result (λ next. IfNone next (length new.rest < framing.most_bytes))
  -- the call as one of a list
  pub call : MakesCall framing old (next_call result) new

-- ---- calls, one after the other

-- what calls make of a decoder, one after the other
abbrev pub MakeCalls : {P F : Type 0} → Framing P F → Decoding P → List (Call F) → Decoding P → Type 0
MakeCalls framing old [] new = new ≡ old
MakeCalls {P = P} framing old (call ∷ calls) new = (mid : Decoding P) × MakesCall framing old call mid × MakeCalls framing mid calls new

-- the bytes that were fed
abbrev pub bytes_fed : {F : Type 0} → List (Call F) → List ℕ
bytes_fed [] = []
bytes_fed (feeds piece ∷ calls) = piece ++ bytes_fed calls
bytes_fed (gives frame ∷ calls) = bytes_fed calls
bytes_fed (waits ∷ calls) = bytes_fed calls
bytes_fed (refuses at ∷ calls) = bytes_fed calls
bytes_fed (fails ∷ calls) = bytes_fed calls

-- the frames that were given
abbrev pub frames_given : {F : Type 0} → List (Call F) → List F
frames_given [] = []
frames_given (feeds piece ∷ calls) = frames_given calls
frames_given (gives frame ∷ calls) = frame ∷ frames_given calls
frames_given (waits ∷ calls) = frames_given calls
frames_given (refuses at ∷ calls) = frames_given calls
frames_given (fails ∷ calls) = frames_given calls

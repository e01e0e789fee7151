-- What a service makes of frames that it takes one after the other. `Answers old frame new reply` says what a frame makes of its state,
-- and which bytes are appended; `Begins place state` that a state is one at the start of a stream.
use Rattle.std.specs.Prelude.{◌≡◌, ℕ, ◌+◌, ◌<◌, ◌≤◌, List, [], ◌∷◌, ◌++◌, length}
use Rattle.pm_wire.specs.Framing.{Framing, MayStand, AllStand, place_behind, stream_bytes, BeginsWith, IsUnfinished, BeginsBadly}
use Rattle.pm_wire.specs.Decoding.{Decoding}

-- the frames lead from one state to another, and these bytes were appended
abbrev pub Runs : {S F : Type 0} → (S → F → S → List ℕ → Type 0) → S → List F → S → List ℕ → Type 0
Runs Answers old [] new reply = (new ≡ old) × (reply ≡ [])
Runs {S = S} Answers old (frame ∷ frames) new reply =
    (mid : S) × (first : List ℕ) × (rest : List ℕ) × Answers old frame mid first × Runs Answers mid frames new rest × (reply ≡ first ++ rest)

-- the bytes answer the frames, from this state on
abbrev pub AnswersFrom : {S F : Type 0} → (S → F → S → List ℕ → Type 0) → S → List F → List ℕ → Type 0
AnswersFrom {S = S} Answers state frames reply = (after : S) × Runs Answers state frames after reply

-- the most frames of a stream
abbrev pub count_limit : ℕ
count_limit = 2147483648

-- a service may take the frame: it was at the start of a stream, and took the frames before this one, which may stand there
pub record CanTake {P F S : Type 0} (framing : Framing P F) (Begins : P → S → Type 0) (Answers : S → F → S → List ℕ → Type 0) (state : S)
    (frame : F) :
    Type 0 where
  pub start : P
  pub first : S
  pub frames : List F
  pub reply : List ℕ
  pub begins : Begins start first
  pub stand : AllStand framing start frames
  pub runs : Runs Answers first frames state reply
  pub stands : MayStand framing (place_behind framing start frames) frame
  pub few : length frames < count_limit

-- the frame was taken: what was appended answers it
pub record TakesFrame {S F : Type 0} (Answers : S → F → S → List ℕ → Type 0) (old : S) (frame : F) (new : S) (out longer : List ℕ) : Type 0 where
  pub reply : List ℕ
  pub answers : Answers old frame new reply
  pub appended : longer ≡ out ++ reply

-- ---- a decoder and a service of its frames

-- the service was at the start of a stream, and took the frames that the decoder gave
pub record Agrees {P F S : Type 0} (framing : Framing P F) (Begins : P → S → Type 0) (Answers : S → F → S → List ℕ → Type 0)
    (decoding : Decoding P)
    (state : S) : Type 0 where
  pub start : P
  pub first : S
  pub frames : List F
  pub reply : List ℕ
  pub begins : Begins start first
  pub stand : AllStand framing start frames
  pub runs : Runs Answers first frames state reply
  pub place : decoding.place ≡ place_behind framing start frames
  pub few : length frames ≤ decoding.offset

-- from a decoder and a state to a later pair of them: these frames were given and taken, and these bytes were appended
pub record Takes {P F S : Type 0} (framing : Framing P F) (Answers : S → F → S → List ℕ → Type 0) (frames : List F) (old new : Decoding P)
    (state after : S) (reply : List ℕ) : Type 0 where
  pub stand : AllStand framing old.place frames
  pub spelled : old.rest ≡ stream_bytes framing frames ++ new.rest
  pub offset : new.offset ≡ old.offset + length (stream_bytes framing frames)
  pub place : new.place ≡ place_behind framing old.place frames
  pub runs : Runs Answers state frames after reply

-- some frames that the decoder gave were taken, and the bytes appended answer them
pub record TakesSome {P F S : Type 0} (framing : Framing P F) (Answers : S → F → S → List ℕ → Type 0) (old new : Decoding P) (state after : S)
    (out longer : List ℕ) : Type 0 where
  pub frames : List F
  pub reply : List ℕ
  pub takes : Takes framing Answers frames old new state after reply
  pub appended : longer ≡ out ++ reply

-- all frames that are whole were taken, and no bad frame shows behind them
pub record TakesWhole {P F S : Type 0} (framing : Framing P F) (Answers : S → F → S → List ℕ → Type 0) (old new : Decoding P) (state after : S)
    (out longer : List ℕ) : Type 0 where
  pub some : TakesSome framing Answers old new state after out longer
  pub unfinished : IsUnfinished framing new.place new.rest

-- the frames before a bad one were taken, and so many bytes stand before it
pub record TakesUpToBad {P F S : Type 0} (framing : Framing P F) (Answers : S → F → S → List ℕ → Type 0) (old new : Decoding P) (state after : S)
    (out longer : List ℕ) (at : ℕ) : Type 0 where
  pub some : TakesSome framing Answers old new state after out longer
  pub bad : BeginsBadly framing new.place new.rest
  pub offset : at ≡ new.offset

-- the decoder and the service are where these frames leave them, at the front of the bytes fed
pub record AreBehind {P F S : Type 0} (framing : Framing P F) (start : P) (Answers : S → F → S → List ℕ → Type 0) (state : S) (bytes : List ℕ)
    (frames : List F) (decoding : Decoding P) (after : S) (reply : List ℕ) : Type 0 where
  pub begins : BeginsWith framing start bytes frames decoding.rest
  pub place : decoding.place ≡ place_behind framing start frames
  pub offset : decoding.offset ≡ length (stream_bytes framing frames)
  pub runs : Runs Answers state frames after reply

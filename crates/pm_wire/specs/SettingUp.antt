-- Where a service that sets its state up may want memory that no count covers: at Hello and the like, and nowhere behind them.
use Rattle.std.specs.Prelude.{◌≡◌, ⊤, ℕ, ◌≤◌, List, [], ◌∷◌, ◌++◌, length, Option}
use Rattle.std.specs.Io.KnownBytes.{Consumes}
use Rattle.pm_wire.specs.Framing.{Framing, BeginsWith, HasFrames}
use Rattle.pm_wire.specs.Decoding.{Decoding}
use Rattle.pm_wire.specs.declared.frame.Frame.{Frame}
use Rattle.pm_wire.specs.declared.frame.Frame.TheVariants.{Hello, Bid, Gone, Clear}

-- the most bytes that `serve` and `live` read at once
abbrev pub piece_size : ℕ
piece_size = 16384

-- the frame is Hello
abbrev pub IsHello : Frame → Type 0
IsHello (Hello basis) = ⊤
IsHello (Bid child number demand) = ⊥
IsHello (Gone child number) = ⊥
IsHello Clear = ⊥

-- the last frame that the decoder gave sets the service up
pub record StopsSettingUp {P F : Type 0} (framing : Framing P F) (SetsUp : F → Type 0) (old new : Decoding P) : Type 0 where
  pub frames : List F
  pub frame : F
  pub begins : BeginsWith framing old.place old.rest (frames ++ frame ∷ []) new.rest
  pub sets_up : SetsUp frame

-- Behind the frames that were whole before the last piece was read, a frame that came with this piece sets the service up. `old` and `new` are
-- what the source had left before and after.
pub record EndsSettingUp {P F : Type 0} (framing : Framing P F) (start : P) (SetsUp : F → Type 0) (most : ℕ) (old new : Option (List ℕ)) :
    Type 0 where
  pub before : List ℕ
  pub piece : List ℕ
  pub frames : List F
  pub more : List F
  pub frame : F
  pub rest : List ℕ
  pub consumes : Consumes old new (before ++ piece)
  pub few : length piece ≤ most
  pub whole : HasFrames framing start before frames
  pub begins : BeginsWith framing start (before ++ piece) (frames ++ (more ++ frame ∷ [])) rest
  pub sets_up : SetsUp frame

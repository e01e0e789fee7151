-- What the bytes of one frame are.
use Rattle.std.specs.Prelude.{◌≡◌, ℕ, List, Option, Some, None}
use Rattle.pm_wire.specs.Framing.{Framing, MayStand}

-- the bytes of a frame that is refused
pub record IsRefusedFrame {P F : Type 0} (framing : Framing P F) (place : P) (bytes : List ℕ) : Type 0 where
  pub frame : F
  pub formed : framing.IsFormed place frame
  pub refused : ¬ framing.IsAccepted place frame
  pub spelled : bytes ≡ framing.frame_bytes frame

-- the bytes of a frame that may stand at this place
pub record IsFrameAt {P F : Type 0} (framing : Framing P F) (place : P) (bytes : List ℕ) (frame : F) : Type 0 where
  pub stands : MayStand framing place frame
  pub spelled : bytes ≡ framing.frame_bytes frame

-- the bytes are those of one frame: of this one, or of one that is refused
abbrev pub IsOne : {P F : Type 0} → Framing P F → P → List ℕ → Option F → Type 0
IsOne framing place bytes None = IsRefusedFrame framing place bytes
IsOne framing place bytes (Some frame) = IsFrameAt framing place bytes frame

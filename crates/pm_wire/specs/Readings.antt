-- What a reader says of the bytes at a place of the stream.
use Rattle.std.specs.Prelude.{◌≡◌, ℕ, ◌≤◌, List, ◌++◌, length, drop}
use Rattle.pm_wire.specs.Framing.{Framing, MayStand, IsUnfinished, BeginsBadly}
use Rattle.pm_wire.specs.declared.front_frame.Reading.{Reading}
use Rattle.pm_wire.specs.declared.front_frame.Reading.TheVariants.{Whole, Unfinished, Bad}

-- a frame stands in the first bytes
pub record IsWhole {P F : Type 0} (framing : Framing P F) (place : P) (bytes : List ℕ) (frame : F) (size : ℕ) : Type 0 where
  pub stands : MayStand framing place frame
  pub spelled : bytes ≡ framing.frame_bytes frame ++ drop size bytes
  pub same_size : size ≡ length (framing.frame_bytes frame)
  pub within : size ≤ length bytes

-- what stands at the front
abbrev pub IsReading : {P F : Type 0} → Framing P F → P → List ℕ → Reading F → Type 0
IsReading framing place bytes (Whole frame size) = IsWhole framing place bytes frame size
IsReading framing place bytes Unfinished = IsUnfinished framing place bytes
IsReading framing place bytes Bad = BeginsBadly framing place bytes

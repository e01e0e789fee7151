-- What holds of a service at each moment at which it reads or writes, whether it ends or not. `old` and `held` are what the peer had left and
-- what it held before the first read, `new` and `holds` the same at the moment.
use Rattle.std.specs.Prelude.{◌≡◌, ℕ, List, ◌++◌, Option}
use Rattle.std.specs.Io.KnownBytes.{Appends, Consumes}
use Rattle.pm_wire.specs.Framing.{Framing}
use Rattle.pm_wire.specs.Services.{IsReplyDue, FailsReading}

-- when it reads: all whole frames of the bytes taken were answered, no bad frame shows in them, and they are no more than the limit.
-- So it is where a read fails.
abbrev pub HasAnswered : {P F : Type 0} → Framing P F → P → (List F → List ℕ → Type 0) → (old new held holds : Option (List ℕ)) → Type 0
HasAnswered framing start Answer old new held holds = FailsReading framing start Answer old new held holds

-- when it writes a piece: with it, the bytes written are what is due for the bytes taken
pub record IsRestDue {P F : Type 0} (framing : Framing P F) (start : P) (Answer : List F → List ℕ → Type 0)
    (old new held holds : Option (List ℕ)) (piece : List ℕ) : Type 0 where
  pub input : List ℕ
  pub due : List ℕ
  pub sent : List ℕ
  pub consumes : Consumes old new input
  pub is_due : IsReplyDue framing start Answer new input due
  pub appends : Appends held holds sent
  pub spelled : due ≡ sent ++ piece

-- at what calls may make of it, the peer asks no more at each read and at each write
pub record AsksWhatIsDue {W P F : Type 0} (left held : W → Option (List ℕ)) (becomes : W → W → Type 0) (may_read : W → Type 0)
    (may_write : W → List ℕ → Type 0) (framing : Framing P F) (start : P) (Answer : List F → List ℕ → Type 0) (old : W) : Type 0 where
  pub read : (now : W) → becomes old now → HasAnswered framing start Answer (left old) (left now) (held old) (held now) →
      may_read now
  pub write : (now : W) (piece : List ℕ) → becomes old now →
      IsRestDue framing start Answer (left old) (left now) (held old) (held now) piece → may_write now piece

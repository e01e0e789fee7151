-- What is owed to a peer that is written several bytes in one or more calls.
use Rattle.std.specs.Prelude.{◌≡◌, ℕ, List, ◌++◌, Option}
use Rattle.std.specs.Io.KnownBytes.{Appends}

-- each rest of the bytes may be written where those before it were, and nothing was read meanwhile
abbrev pub MayWriteAll : {W : Type 0} → (left held : W → Option (List ℕ)) → (becomes : W → W → Type 0) →
    (may_write : W → List ℕ → Type 0) → W → List ℕ → Type 0
MayWriteAll {W} left held becomes may_write wire bytes =
    (now : W) (sent rest : List ℕ) → bytes ≡ sent ++ rest → becomes wire now → left now ≡ left wire →
    Appends (held wire) (held now) sent → may_write now rest

-- An input that begins with a cluster file.
use Rattle.std.specs.Prelude.{◌≡◌, ℕ, ◌≤◌, List, ◌∷◌, ◌++◌, length, decimal}

-- the most bytes of a cluster file
abbrev pub file_limit : ℕ
file_limit = 4194304

-- the input is the number of the file's bytes in decimal digits, a line feed, the file and the rest
pub record IsEnvelope (input file rest : List ℕ) : Type 0 where
  pub parts : input ≡ decimal (length file) ++ (10 ∷ (file ++ rest))
  pub short : length file ≤ file_limit

-- What a carrier has of the frames of a node that was ended at any byte.
use Rattle.std.specs.Prelude.{◌≡◌, ◌⊎◌, ℕ, ◌<◌, List, [], ◌∷◌, ◌++◌, length, take, drop}
use Rattle.pm_basis.specs.Prices.{BasisValue}
use Rattle.pm_services.specs.Outputs.{Output, output_bytes, outputs_bytes}

-- the bytes are a beginning of the first of these frames, and not all of it
abbrev pub IsPartOf : {K : Type 0} → (K → List ℕ) → BasisValue → ℕ → List ℕ → List (Output K) → Type 0
IsPartOf kept basis child rest [] = ⊥
IsPartOf kept basis child rest (out ∷ outs) =
    (length rest < length (output_bytes kept basis child out)) × ((more : List ℕ) × (output_bytes kept basis child out ≡ rest ++ more))

-- of the bytes of these frames the first m: they are the first n frames, whole, and nothing else or a part of the next one
pub record IsCutStream {K : Type 0} (kept : K → List ℕ) (basis : BasisValue) (child : ℕ) (outs : List (Output K)) (m : ℕ) : Type 0 where
  pub n : ℕ
  pub rest : List ℕ
  pub held : take m (outputs_bytes kept basis child outs) ≡ outputs_bytes kept basis child (take n outs) ++ rest
  pub part : (rest ≡ []) ⊎ IsPartOf kept basis child rest (drop n outs)

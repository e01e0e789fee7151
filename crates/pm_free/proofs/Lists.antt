-- Lists with one more at their end.
use Rattle.std.proofs.Common.{◌≡◌, ap, ℕ, zero, suc, ◌<◌, ◌⊎◌, List, [], ◌∷◌, ◌++◌, length, Some, inl, inr, refl, arith}
use Rattle.std.specs.Prelude.{slice_get, unwrap_or}
use Rattle.std.proofs.Math.ListN.{set}

-- what stands in it stood there before, or is the last
pub in_more : {X : Type 0} (xs : List X) (y : X) (k : ℕ) (x : X) → slice_get (xs ++ y ∷ []) k ≡ Some x →
    (slice_get xs k ≡ Some x) ⊎ ((k ≡ length xs) × (y ≡ x))
in_more [] y zero x is = inr (refl, ap (λ o. unwrap_or o y) is)
in_more [] y (suc k) x is = absurd (cc is)
in_more (z ∷ xs) y zero x is = inl is
in_more (z ∷ xs) y (suc k) x is = elim (in_more xs y k x is) [
  | inl at ↦ inl at
  | inr last ↦ inr (ap suc last.0, last.1)
]

-- what stands in a list after one member is set
pub get_set_same : {X : Type 0} (xs : List X) (k : ℕ) (x : X) → k < length xs → slice_get (set xs k x) k ≡ Some x
get_set_same [] k x lt = absurd (omega (arith, lt))
get_set_same (y ∷ ys) zero x lt = refl
get_set_same (y ∷ ys) (suc k) x lt = get_set_same ys k x (omega (arith, lt))

-- and what stands elsewhere
pub get_set_other : {X : Type 0} (xs : List X) (k j : ℕ) (x : X) → (j ≡ k → ⊥) → slice_get (set xs k x) j ≡ slice_get xs j
get_set_other [] k j x ne = refl
get_set_other (y ∷ ys) zero zero x ne = absurd (ne refl)
get_set_other (y ∷ ys) zero (suc j) x ne = refl
get_set_other (y ∷ ys) (suc k) zero x ne = refl
get_set_other (y ∷ ys) (suc k) (suc j) x ne = get_set_other ys k j x (λ e. ne (ap suc e))

-- A vector that a call wrote over as a slice.
use Rattle.std.proofs.Common.{◌≡◌, ◌∙◌, sym, ap, ℕ, List, length, take, drop, ◌++◌}
use Rattle.std.proofs.Math.Seq.{take-append_seam}

-- where the slice has as many elements as the vector, these are the vector's
pub written_over : {X : Type 0} (new old : List X) (n : ℕ) → length new ≡ n → take n (new ++ drop (length new) old) ≡ new
written_over new old n is = ap (λ k. take k (new ++ drop (length new) old)) (sym is) ∙ take-append_seam new (drop (length new) old)

-- The bytes of a field determine it, and the demands of a bid.
use Rattle.std.proofs.Common.{◌≡◌, ◌∙◌, sym, ap, refl, ℕ, ◌*◌, ◌<◌, ◌^◌, ℤ, List, [], ◌∷◌, ◌++◌, length, take}
use Rattle.std.proofs.Common.{drop, arith, append_assoc}
use Rattle.std.proofs.Common.{length-append, FitsSigned}
use Rattle.std.specs.Int.{w16, w32, w64, to_be_bytes, from_be_bytes, cast_signed, cast_unsigned}
use Rattle.std.specs.List.{AllByRecursion}
use Rattle.std.proofs.lemmas.Int.{to_z-of_z}
use Rattle.std.proofs.Math.Facts.{Fits-of_z, Fits-lt-pow, sfits_widen}
use Rattle.std.proofs.lemmas.List.{take_at, drop_at}
use Rattle.std.proofs.lemmas.Grind.{flat_map-append}
use Rattle.std.proofs.lemmas.Nat.{from_be_bytes-to_be_bytes_2, from_be_bytes-to_be_bytes_4}
use Rattle.pm_wire.specs.Frames.{signed_bytes, demand_bytes}

-- two lists whose fronts are equally long have the same fronts and the same rests
pub parts_same : (p q x y : List ℕ) → length p ≡ length q → p ++ x ≡ q ++ y → (p ≡ q) × (x ≡ y)
parts_same p q x y same e = (
  sym (take_at p x (length p) refl) ∙ ap (λ l. take (length p) l) e ∙ take_at q y (length p) (sym same),
  sym (drop_at p x (length p) refl) ∙ ap (λ l. drop (length p) l) e ∙ drop_at q y (length p) (sym same),
)

-- a field of two bytes
pub two_same : (a b : ℕ) (x y : List ℕ) → a < 2 ^ 16 → b < 2 ^ 16 → to_be_bytes w16 a ++ x ≡ to_be_bytes w16 b ++ y → (a ≡ b) × (x ≡ y)
two_same a b x y fits fits' e =
    let parts = parts_same (to_be_bytes w16 a) (to_be_bytes w16 b) x y refl e in
    (sym (from_be_bytes-to_be_bytes_2 a fits) ∙ ap (from_be_bytes w16) parts.0 ∙ from_be_bytes-to_be_bytes_2 b fits', parts.1)

-- a field of four bytes
pub four_same : (a b : ℕ) (x y : List ℕ) → a < 2 ^ 32 → b < 2 ^ 32 → to_be_bytes w32 a ++ x ≡ to_be_bytes w32 b ++ y → (a ≡ b) × (x ≡ y)
four_same a b x y fits fits' e =
    let parts = parts_same (to_be_bytes w32 a) (to_be_bytes w32 b) x y refl e in
    (sym (from_be_bytes-to_be_bytes_4 a fits) ∙ ap (from_be_bytes w32) parts.0 ∙ from_be_bytes-to_be_bytes_4 b fits', parts.1)

-- a signed field of four bytes
pub signed_same : (a b : ℤ) (x y : List ℕ) → FitsSigned w32 a → FitsSigned w32 b → signed_bytes a ++ x ≡ signed_bytes b ++ y →
    (a ≡ b) × (x ≡ y)
signed_same a b x y fits fits' e =
    let same = four_same (cast_unsigned w32 a) (cast_unsigned w32 b) x y (Fits-lt-pow (Fits-of_z fits)) (Fits-lt-pow (Fits-of_z fits')) e in
    (sym (to_z-of_z w32 a fits) ∙ ap (cast_signed w32) same.0 ∙ to_z-of_z w32 b fits', same.1)

-- the demands of two bids of as many steps
pub demands_same : (a b : List ℤ) (x y : List ℕ) → length a ≡ length b → AllByRecursion (λ z. FitsSigned w32 z) a →
    AllByRecursion (λ z. FitsSigned w32 z) b → demand_bytes a ++ x ≡ demand_bytes b ++ y → (a ≡ b) × (x ≡ y)
demands_same [] [] x y many fit fit' e = (refl, e)
demands_same [] (d ∷ b) x y many fit fit' e = absurd (omega (arith, many))
demands_same (c ∷ a) [] x y many fit fit' e = absurd (omega (arith, many))
demands_same (c ∷ a) (d ∷ b) x y many fit fit' e =
    let first = signed_same c d (demand_bytes a ++ x) (demand_bytes b ++ y) fit.0 fit'.0
    (sym (append_assoc (signed_bytes c) (demand_bytes a) x) ∙ e ∙ append_assoc (signed_bytes d) (demand_bytes b) y) in
    let others = demands_same a b x y (omega (arith, many)) fit.1 fit'.1 first.1 in
    (ap (λ z. z ∷ a) first.0 ∙ ap (λ l. d ∷ l) others.0, others.1)

-- four bytes for each demand
pub length-demand_bytes : (demand : List ℤ) → length (demand_bytes demand) ≡ 4 * length demand
length-demand_bytes [] = refl
length-demand_bytes (d ∷ demand) = omega (arith, length-append (signed_bytes d) (demand_bytes demand), length-demand_bytes demand)

-- one more demand
pub demands_more : (bytes rest behind : List ℕ) (demand : List ℤ) (d : ℤ) → bytes ≡ demand_bytes demand ++ rest →
    rest ≡ signed_bytes d ++ behind →
    bytes ≡ demand_bytes (demand ++ d ∷ []) ++ behind
demands_more bytes rest behind demand d e e' =
    let one : demand_bytes (demand ++ d ∷ []) ≡ demand_bytes demand ++ signed_bytes d = flat_map-append signed_bytes demand (d ∷ []) in
    e ∙ ap (λ l. demand_bytes demand ++ l) e' ∙ sym (append_assoc (demand_bytes demand) (signed_bytes d) behind) ∙ ap (λ l. l ++ behind) (sym one)

-- where demands have 32 bits and one more has, all of them have, with this one at the end
pub fit_more : (demand : List ℤ) (d : ℤ) → AllByRecursion (λ z. FitsSigned w32 z) demand → FitsSigned w32 d →
    AllByRecursion (λ z. FitsSigned w32 z) (demand ++ d ∷ [])
fit_more [] d fit fits = (fits, tt)
fit_more (c ∷ demand) d fit fits = (fit.0, fit_more demand d fit.1 fits)

-- a signed field as a number of 64 bits
pub wide : (z : ℤ) → FitsSigned w32 z → cast_signed w64 (cast_unsigned w64 z) ≡ z
wide z fits = to_z-of_z w64 z (sfits_widen tt fits)

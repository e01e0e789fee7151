-- The bytes of the children's numbers determine them.
use Rattle.std.proofs.Common.{◌≡◌, ◌∙◌, sym, ap, refl, ℕ, ◌*◌, ◌<◌, ◌^◌, List, [], ◌∷◌, ◌++◌, length}
use Rattle.std.proofs.Common.{arith, append_assoc, length-append}
use Rattle.std.specs.Int.{w32, to_be_bytes}
use Rattle.std.specs.List.{AllByRecursion}
use Rattle.std.proofs.lemmas.Grind.{flat_map-append}
use Rattle.pm_wire.proofs.OneField.{four_same}
use Rattle.pm_frames.specs.Stored.{number_bytes}

-- the numbers of as many children
pub numbers_same : (a b x y : List ℕ) → length a ≡ length b → AllByRecursion (λ n. n < 2 ^ 32) a → AllByRecursion (λ n. n < 2 ^ 32) b →
    number_bytes a ++ x ≡ number_bytes b ++ y → (a ≡ b) × (x ≡ y)
numbers_same [] [] x y many fit fit' e = (refl, e)
numbers_same [] (d ∷ b) x y many fit fit' e = absurd (omega (arith, many))
numbers_same (c ∷ a) [] x y many fit fit' e = absurd (omega (arith, many))
numbers_same (c ∷ a) (d ∷ b) x y many fit fit' e =
    let first = four_same c d (number_bytes a ++ x) (number_bytes b ++ y) fit.0 fit'.0
    (sym (append_assoc (to_be_bytes w32 c) (number_bytes a) x) ∙ e ∙ append_assoc (to_be_bytes w32 d) (number_bytes b) y) in
    let others = numbers_same a b x y (omega (arith, many)) fit.1 fit'.1 first.1 in
    (ap (λ n. n ∷ a) first.0 ∙ ap (λ l. d ∷ l) others.0, others.1)

-- four bytes for each number
pub length-number_bytes : (numbers : List ℕ) → length (number_bytes numbers) ≡ 4 * length numbers
length-number_bytes [] = refl
length-number_bytes (n ∷ numbers) = omega (arith, length-append (to_be_bytes w32 n) (number_bytes numbers), length-number_bytes numbers)

-- one more number
pub numbers_more : (bytes rest after numbers : List ℕ) (n : ℕ) → bytes ≡ number_bytes numbers ++ rest → rest ≡ to_be_bytes w32 n ++ after →
    bytes ≡ number_bytes (numbers ++ n ∷ []) ++ after
numbers_more bytes rest after numbers n e e' =
    let one : number_bytes (numbers ++ n ∷ []) ≡ number_bytes numbers ++ to_be_bytes w32 n = flat_map-append (to_be_bytes w32) numbers (n ∷ []) in
    e ∙ ap (λ l. number_bytes numbers ++ l) e' ∙ sym (append_assoc (number_bytes numbers) (to_be_bytes w32 n) after)
    ∙ ap (λ l. l ++ after) (sym one)

-- where numbers have 32 bits and one more has, all of them have, with this one at the end
pub fit_more : (numbers : List ℕ) (n : ℕ) → AllByRecursion (λ z. z < 2 ^ 32) numbers → n < 2 ^ 32 →
    AllByRecursion (λ z. z < 2 ^ 32) (numbers ++ n ∷ [])
fit_more [] n fit fits = (fits, tt)
fit_more (c ∷ numbers) n fit fits = (fit.0, fit_more numbers n fit.1 fits)

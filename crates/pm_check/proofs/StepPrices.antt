-- Prices and their steps.
use Rattle.std.proofs.Common.{◌≡◌, ◌∙◌, sym, ap, refl, ℕ, zero, suc, ◌+◌, ◌*◌, ◌-◌, ◌/◌, ◌%◌, ◌<◌, ◌≤◌, ◌^◌}
use Rattle.std.proofs.Common.{ℤ, pos, negsuc, ◌≤ℤ◌, neg_ℤ, List, arith, Option, Some, None, true}
use Rattle.std.specs.Prelude.{◌-ℤ◌, ◌*ℤ◌, ◌+ℤ◌, int_div, int_rem}
use Rattle.std.proofs.Math.Nat.{div-add-mod, mul-div_cancel, mul-mod_left, mul_assoc, mul_comm, div-le_of_le-mul, mul-le-mul_right}
use Rattle.std.proofs.lemmas.Int.{ints}
use Rattle.std.specs.Fmt.{signed_decimal}
use Rattle.std.proofs.lemmas.Fmt.{signed_decimal_injective}
use lib.Signed.{mag}
use Rattle.pm_base.specs.Limits.{price_limit}
use Rattle.pm_check.specs.MoveReading.{Reads, size_of, is_word}
use Rattle.pm_report.proofs.LineWords.{signed_word}
use Rattle.pm_report.proofs.Prices.{price_fits}
use Rattle.pm_basis.specs.Prices.{BasisValue, price_at, IsBasis}

-- so many steps rise so many times the distance of two
pub rise_of_step : (range last k : ℕ) → 1 ≤ last → range % last ≡ 0 → k * range / last ≡ k * (range / last)
rise_of_step range last k some even =
    let whole : (range / last) * last ≡ range = omega (arith, div-add-mod range last, even, mul_comm (range / last) last) in
    let turned : k * range ≡ k * (range / last) * last = ap (λ (r : ℕ). k * r) (sym whole) ∙ sym (mul_assoc k (range / last) last) in
    ap (λ (n : ℕ). n / last) turned ∙ mul-div_cancel (k * (range / last)) (omega arith)

-- the distance of two steps
pub some_spacing : (range last : ℕ) → 1 ≤ last → 1 ≤ range → range % last ≡ 0 → 1 ≤ range / last
some_spacing range last some wide even = by (range / last) refl
  where
    by : (q : ℕ) → range / last ≡ q → 1 ≤ range / last
    by zero is = let whole = div-add-mod range last in let none = ap (λ (q : ℕ). last * q) is in absurd (omega (arith, whole, none, even))
    by (suc q) is = omega (arith, is)

-- a rise that is divided by the distance is that of a step
pub step_at_rise : (range last rise : ℕ) → 1 ≤ last → 1 ≤ range → range % last ≡ 0 → rise ≤ range → rise % (range / last) ≡ 0 →
    (rise / (range / last) ≤ last) × (rise / (range / last) * range / last ≡ rise)
step_at_rise range last rise some wide even within divided =
    let spacing : ℕ = range / last in
    let whole : spacing * last ≡ range = omega (arith, div-add-mod range last, even, mul_comm spacing last) in
    let parts : rise / spacing * spacing ≡ rise = omega (arith, div-add-mod rise spacing, divided, mul_comm (rise / spacing) spacing) in
    (div-le_of_le-mul spacing (omega (arith, whole, within)), rise_of_step range last (rise / spacing) some even ∙ parts)

-- and the rise of a step is divided by the distance
pub rise_is_divided : (range last rise k : ℕ) → 1 ≤ last → range % last ≡ 0 → k * range / last ≡ rise → rise % (range / last) ≡ 0
rise_is_divided range last rise k some even is =
    ap (λ (n : ℕ). n % (range / last)) (sym is ∙ rise_of_step range last k some even) ∙ mul-mod_left k (range / last)

-- no step rises above the range
pub rise_within : (range last k : ℕ) → 1 ≤ last → range % last ≡ 0 → k ≤ last → k * range / last ≤ range
rise_within range last k some even within =
    let whole : last * (range / last) ≡ range = omega (arith, div-add-mod range last, even) in
    omega (arith, rise_of_step range last k some even, mul-le-mul_right (range / last) within, whole)

-- a basis by its range of prices and its last step
pub record IsRange (basis : BasisValue) (range last : ℕ) : Type 0 where
  -- the range is the greatest price less the least
  pub whole : pos range ≡ basis.max -ℤ basis.min
  -- the basis has one step more than the number of its last step
  pub steps : basis.steps ≡ last + 1

-- the price of step k is the least price plus k * range / last
pub price_is : (basis : BasisValue) (range last k : ℕ) → IsRange basis range last → price_at basis k ≡ basis.min +ℤ pos (k * range / last)
price_is basis range last k is =
    let steps : pos basis.steps -ℤ pos 1 ≡ pos last = omega (arith, ints, is.steps) in
    ap (λ z. basis.min +ℤ int_div (pos k *ℤ (basis.max -ℤ basis.min)) z) steps
    ∙ ap (λ z. basis.min +ℤ int_div (pos k *ℤ z) (pos last)) (sym is.whole)

-- the number of the last step divides the range of the prices without a rest
pub even_range : (basis : BasisValue) → IsBasis basis → (range last : ℕ) → IsRange basis range last → range % last ≡ 0
even_range basis sound range last is =
    let steps : pos basis.steps -ℤ pos 1 ≡ pos last = omega (arith, ints, is.steps) in
    let rest : int_rem (pos range) (pos last) ≡ pos 0 = ap (λ z. int_rem z (pos last)) is.whole
    ∙ ap (λ z. int_rem (basis.max -ℤ basis.min) z) (sym steps) ∙ sound.even in
    omega (arith, ints, rest)

-- no price is below the least or above the greatest
pub price_within : (basis : BasisValue) → IsBasis basis → (range last k : ℕ) → IsRange basis range last → 1 ≤ last → k < basis.steps →
    (basis.min ≤ℤ price_at basis k) × (price_at basis k ≤ℤ basis.max)
price_within basis sound range last k is some inside =
    let price = price_is basis range last k is in
    let below = rise_within range last k some (even_range basis sound range last is) (omega (arith, inside, is.steps)) in
    (omega (arith, ints, price), omega (arith, ints, price, below, is.whole))

-- the step of a price by its rise
pub reads_price : (basis : BasisValue) → (range last rise : ℕ) (price : ℤ) (answer : Option ℕ) → IsRange basis range last →
    pos rise ≡ price -ℤ basis.min →
    Reads (λ k. k ≤ last) (λ k. k * range / last) rise answer → Reads (λ k. k < basis.steps) (price_at basis) price answer
reads_price basis range last rise price None is at read = record {
  told = tt;
  none = λ e k inside same. read.none e k (omega (arith, inside, is.steps)) (omega (arith, ints, at, sym same ∙ price_is basis range last k is));
}
reads_price basis range last rise price (Some k) is at read = record {
  told = (omega (arith, read.told.0, is.steps), omega (arith, ints, at, price_is basis range last k is, read.told.1));
  none = λ e. absurd cc;
}

-- the same without the numbers
pub price_between : (basis : BasisValue) → IsBasis basis → (k : ℕ) → k < basis.steps → (basis.min ≤ℤ price_at basis k)
    × (price_at basis k ≤ℤ basis.max)
price_between basis sound k inside = by (basis.max -ℤ basis.min) refl
  where
    by : (z : ℤ) → z ≡ basis.max -ℤ basis.min → (basis.min ≤ℤ price_at basis k) × (price_at basis k ≤ℤ basis.max)
    by (pos range) is =
        let whole : IsRange basis range (basis.steps - 1) = record { whole = is; steps = omega (arith, inside) } in
        price_within basis sound range (basis.steps - 1) k whole (omega (arith, sound.steps.least)) inside
    by (negsuc range) is = absurd (omega (arith, ints, is, sound.order))

price_bound : (basis : BasisValue) → IsBasis basis → (k : ℕ) → k < basis.steps → (neg_ℤ (pos price_limit) ≤ℤ price_at basis k)
    × (price_at basis k ≤ℤ pos price_limit)
price_bound basis sound k inside =
    let within = price_between basis sound k inside in
    (omega (arith, ints, within.0, sound.low), omega (arith, ints, within.1, sound.high))

-- the price of each step, without its sign, has 32 bits
pub price_size : (basis : BasisValue) → IsBasis basis → (k : ℕ) → k < basis.steps → size_of (price_at basis k) < 2 ^ 32
price_size basis sound k inside = sized (price_at basis k) refl
  where
    sized : (z : ℤ) → z ≡ price_at basis k → size_of z < 2 ^ 32
    sized (pos n) is = let fits = price_bound basis sound k inside in omega (arith, ints, is, fits)
    sized (negsuc n) is = let fits = price_bound basis sound k inside in omega (arith, ints, is, fits)

-- the step of a price that is written
pub reads_written : (basis : BasisValue) → IsBasis basis → (price : ℤ) (word : List ℕ) (answer : Option ℕ) → size_of price < 2 ^ 32 →
    signed_decimal price ≡ word →
    Reads (λ k. k < basis.steps) (price_at basis) price answer → Reads (λ k. k < basis.steps) (λ k. signed_decimal (price_at basis k)) word answer
reads_written basis sound price word None small written read = record {
  told = tt;
  none = λ e k inside same. read.none e k inside
      (signed_decimal_injective (price_at basis k) price (mag_small (price_at basis k) (price_size basis sound k inside))
      (mag_small price small) (same ∙ sym written));
}
  where
    mag_small : (z : ℤ) → size_of z < 2 ^ 32 → mag z < 2 ^ 63
    mag_small (pos n) small = omega (arith, ints)
    mag_small (negsuc n) small = omega (arith, ints)
reads_written basis sound price word (Some k) small written read =
    record { told = (read.told.0, ap signed_decimal read.told.1 ∙ written); none = λ e. absurd cc }

-- the price of a step is a word
pub step_word : (basis : BasisValue) → IsBasis basis → (k : ℕ) → k < basis.steps → is_word (signed_decimal (price_at basis k)) ≡ true
step_word basis sound k inside = signed_word (price_at basis k) (price_fits basis sound k inside)

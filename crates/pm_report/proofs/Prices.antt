-- The prices of different steps differ, and each fits 64 bits.
use Rattle.std.proofs.Common.{◌≡◌, ap, refl, ℕ, zero, suc, ◌+◌, ◌*◌, ◌/◌, ◌%◌, ◌<◌, ◌≤◌, ◌^◌, ℤ, pos, negsuc}
use Rattle.std.proofs.Common.{◌≤ℤ◌, ◌<ℤ◌, neg_ℤ, suc-mul, arith}
use Rattle.std.specs.Prelude.{◌-ℤ◌, ◌*ℤ◌, int_div, int_rem}
use Rattle.std.proofs.Math.Nat.{mul-le-mul_right, div-mul-le_self, div-add-mod}
use Rattle.std.proofs.lemmas.Nat.{le-div}
use Rattle.std.proofs.lemmas.Int.{ints}
use Rattle.pm_base.specs.Limits.{price_limit}
use Rattle.pm_basis.specs.Prices.{BasisValue, price_at, IsBasis}
use Rattle.pm_basis.proofs.Rises.{rise_from, rise_to}
use lib.Signed.{mag}

-- a range that is divided without a rest is at least as many as its parts
pub at_least : (range parts : ℕ) → 0 < range → range % parts ≡ 0 → parts ≤ range
at_least range parts some even = by (range / parts) refl
  where
    by : (q : ℕ) → range / parts ≡ q → parts ≤ range
    by zero is = let whole = div-add-mod range parts in let none = ap (λ q. parts * q) is in absurd (omega arith)
    by (suc q) is = let whole = div-add-mod range parts in let times = ap (λ q. parts * q) is in omega (arith, times)

-- a later step has a greater rise
greater : (j k range parts : ℕ) → 0 < parts → parts ≤ range → j < k → j * range / parts < k * range / parts
greater j k range parts some wide later =
    let reached = div-mul-le_self (j * range) parts in
    let whole : suc j * range ≤ k * range = mul-le-mul_right range later in
    let above = le-div (j * range / parts + 1) (k * range) parts some (omega (arith, suc-mul j range)) in
    omega (arith, above)

rise_greater : (j k : ℕ) (range parts : ℤ) → pos 0 <ℤ range → pos 0 <ℤ parts → int_rem range parts ≡ pos 0 → j < k →
    int_div (pos j *ℤ range) parts <ℤ int_div (pos k *ℤ range) parts
rise_greater j k (pos range) (pos parts) some_range some_parts even later =
    let divided : range % parts ≡ 0 = omega (arith, ints) in
    let wide = at_least range parts (omega (arith, ints)) divided in
    let more = greater j k range parts (omega (arith, ints)) wide later in
    omega (arith, ints, more)
rise_greater j k (negsuc range) parts some_range some_parts even later = absurd (omega (arith, ints))
rise_greater j k (pos range) (negsuc parts) some_range some_parts even later = absurd (omega (arith, ints))

price_greater : (basis : BasisValue) → IsBasis basis → (j k : ℕ) → j < k → price_at basis j <ℤ price_at basis k
price_greater basis is j k later =
    let more = rise_greater j k (basis.max -ℤ basis.min) (pos basis.steps -ℤ pos 1) (omega (arith, ints)) (omega (arith, ints)) is.even later in
    omega (arith, ints, more)

-- the prices of two steps differ
pub same_step : (basis : BasisValue) → IsBasis basis → (j k : ℕ) → price_at basis j ≡ price_at basis k → j ≡ k
same_step basis is j k same =
    let not_later : j < k → ⊥ = λ later. let more = price_greater basis is j k later in omega (arith, ints, ap (λ z. z) same) in
    let not_earlier : k < j → ⊥ = λ later. let more = price_greater basis is k j later in omega (arith, ints, ap (λ z. z) same) in
    omega (arith, not_later, not_earlier)

within_fits : (z : ℤ) → neg_ℤ (pos price_limit) ≤ℤ z → z ≤ℤ pos price_limit → mag z < 2 ^ 63
within_fits (pos n) low high = omega (arith, ints)
within_fits (negsuc n) low high = omega (arith, ints)

-- the price of a step lies within ±1,000,000,000
pub price_fits : (basis : BasisValue) → IsBasis basis → (k : ℕ) → k < basis.steps → mag (price_at basis k) < 2 ^ 63
price_fits basis is k inside =
    let range = basis.max -ℤ basis.min in
    let parts = pos basis.steps -ℤ pos 1 in
    let low = rise_from (pos k) parts range (omega (arith, ints)) (omega (arith, ints)) (omega (arith, ints)) in
    let high = rise_to (pos k) parts range (omega (arith, ints)) (omega (arith, ints)) (omega (arith, ints)) (omega (arith, ints)) in
    within_fits (price_at basis k) (omega (arith, ints, low, high)) (omega (arith, ints, low, high))

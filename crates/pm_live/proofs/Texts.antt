-- Each text writes one number.
use Rattle.std.proofs.Common.{◌≡◌, ◌∙◌, sym, ap, ℕ, ◌<◌, ◌≤◌, ◌^◌, ℤ, pos, negsuc, List, drop, get_or, zero, suc, arith}
use Rattle.std.specs.Prelude.{decimal}
use Rattle.std.specs.Fmt.{signed_decimal}
use Rattle.std.proofs.lemmas.Fmt.{signed_decimal_injective, decimal_digit, first_decimal}
use Rattle.std.proofs.lemmas.Int.{ints}
use Rattle.std.specs.Int.Signed.{mag}
use Rattle.pm_base.specs.Limits.{IsWithin}

small : (limit : ℕ) (z : ℤ) → limit < 2 ^ 32 → IsWithin limit z → mag z < 2 ^ 63
small limit (pos n) few within = omega (arith, ints, within.high)
small limit (negsuc n) few within = omega (arith, ints, within.low)

-- a text of two numbers within limits
pub one_number : (limit other : ℕ) (y z : ℤ) (text : List ℕ) → limit < 2 ^ 32 → other < 2 ^ 32 → IsWithin limit y → IsWithin other z →
    text ≡ signed_decimal y → text ≡ signed_decimal z → y ≡ z
one_number limit other y z text few also within inside first second =
    signed_decimal_injective y z (small limit y few within) (small other z also inside) (sym first ∙ second)

-- no number from 0 on begins with a minus sign
no_minus : (n : ℕ) (text : List ℕ) → n < 2 ^ 64 → text ≡ decimal n → get_or text 0 0 ≡ 45 → ⊥
no_minus zero text fits is minus = omega (arith, ap (λ l. get_or l 0 0) (is ∙ decimal_digit 0 (omega arith)), minus)
no_minus (suc n) text fits is minus = omega (arith, first_decimal (suc n) (omega arith) fits, sym (ap (λ l. get_or l 0 0) is) ∙ minus)

-- a text that begins with a minus sign, after which no number from 1 on stands, writes no number
pub no_number : (limit : ℕ) (z : ℤ) (text : List ℕ) → limit < 2 ^ 32 → IsWithin limit z → get_or text 0 0 ≡ 45 →
    ((n : ℕ) → 1 ≤ n → n ≤ limit → drop 1 text ≡ decimal n → ⊥) → text ≡ signed_decimal z → ⊥
no_number limit (pos n) text few within minus never is = no_minus n text (omega (arith, ints, within.high)) is minus
no_number limit (negsuc n) text few within minus never is = never (suc n) (omega arith) (omega (arith, ints, within.low)) (ap (drop 1) is)

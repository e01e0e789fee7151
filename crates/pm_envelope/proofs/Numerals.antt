-- The decimal text of a number: its digits, and which digits are one.
use Rattle.std.proofs.Common.{◌≡◌, ◌≢◌, ap, sym, ◌∙◌, ℕ, zero, suc, ◌^◌, ◌<◌, ◌≤◌, List, length, get_or, arith}
use Rattle.std.specs.Prelude.{decimal, Option, Some, None, IfSome, IfNone}
use Rattle.std.specs.Option.{SomeIff}
use Rattle.std.specs.Str.Parse.{AllDigits, digits_value}
use Rattle.std.proofs.lemmas.Fmt.{decimal_is_IsNumeral, decimal-digits_value, decimal_digit, first_decimal}
use Rattle.std.proofs.lemmas.List.Elements.{All-from_get_or}
use Rattle.std.proofs.lemmas.Str.Parse.{digit_at, tells_digits, numerals_by_value}
use Rattle.pm_envelope.specs.Lines.{HasNoLineFeed}

-- digits without a leading zero, and their value
pub record IsNumeralOf (number : ℕ) (text : List ℕ) : Type 0 where
  -- there is at least one digit
  pub some : 0 < length text
  -- digits that begin with a zero are that zero alone
  pub no_leading_zero : get_or text 0 0 ≡ 48 → length text ≡ 1
  -- each byte is a decimal digit
  pub digits : AllDigits 10 text
  -- the value of the digits is the number
  pub value : digits_value 10 text ≡ number

no_zero_first : (number : ℕ) (text : List ℕ) → number < 2 ^ 64 → text ≡ decimal number → get_or text 0 0 ≡ 48 → length text ≡ 1
no_zero_first zero text fits is zero_first = ap length (is ∙ decimal_digit 0 (omega arith))
no_zero_first (suc n) text fits is zero_first =
    let above = first_decimal (suc n) (omega arith) fits in
    let first = ap (λ ds. get_or ds 0 0) is in
    absurd (omega arith)

-- a number's text is such digits
pub numeral_of : (number : ℕ) (text : List ℕ) → number < 2 ^ 64 → text ≡ decimal number → IsNumeralOf number text
numeral_of number text fits is =
    let whole = rw (← is) at (decimal_is_IsNumeral number fits) in
    record {
      some = whole.0.0;
      no_leading_zero = no_zero_first number text fits is;
      digits = whole.0.1;
      value = whole.1;
    }

-- such digits are the text of their value
pub numeral_is : (number : ℕ) (text : List ℕ) → number < 2 ^ 64 → IsNumeralOf number text → text ≡ decimal number
numeral_is number text fits is =
    let same = decimal-digits_value (numerals_by_value (AllDigits 10) tells_digits) text is.digits is.some is.no_leading_zero (omega (arith, is.value)) in
    sym same ∙ ap decimal is.value

-- no digit is a line feed
pub decimal_on_a_line : (number : ℕ) → number < 2 ^ 64 → HasNoLineFeed (decimal number)
decimal_on_a_line number fits =
    let digits = (decimal_is_IsNumeral number fits).0.1 in
    All-from_get_or (λ byte. byte ≢ 10) (decimal number) 0
    (λ i inside feed. let digit = digit_at (decimal number) i digits inside in omega (arith, feed, digit.0))

-- what the value of digits says where no zero leads them: it is the number that the text writes, and where there is none
-- the text writes no number up to the greatest
pub value_is_number : (most : ℕ) (text : List ℕ) (value : Option ℕ) → most < 2 ^ 64 → 0 < length text →
    (get_or text 0 0 ≡ 48 → length text ≡ 1)
    → SomeIff value (AllDigits 10 text × (digits_value 10 text ≤ most)) (digits_value 10 text)
    → IfSome value (λ number. text ≡ decimal number) × IfNone value ((number : ℕ) → number ≤ most → text ≢ decimal number)
value_is_number most text (Some number) fits some lone is = (
  numeral_is number text (omega (arith, is.0.1, is.1)) (record { some = some; no_leading_zero = lone; digits = is.0.0; value = sym is.1 }),
  tt,
)
value_is_number most text None fits some lone none = (
  tt,
  λ number small is. let numeral = numeral_of number text (omega arith) is in none (numeral.digits, omega (arith, numeral.value)),
)

-- A number and its digits.
use Rattle.std.proofs.Common.{◌≡◌, ◌≢◌, ◌∙◌, sym, ap, subst, refl, ℕ, zero, suc, ◌⊎◌, ◌<◌, ◌≤◌, ◌^◌, eqb, List, []}
use Rattle.std.proofs.Common.{◌∷◌, length, take, drop, get_or, ◌-◌, arith, inl, inr, ℤ, pos, negsuc, neg_ℤ}
use Rattle.std.specs.Prelude.{Result, Ok, Err, decimal}
use Rattle.std.specs.Fmt.{signed_decimal}
use Rattle.pm_check.specs.MoveReading.{size_of}
use Rattle.pm_check.proofs.Splitting.{take_all}
use Rattle.std.specs.Str.Parse.{AllDigits, digits_value, without_leading_plus, ParsesUnsigned}
use Rattle.std.proofs.lemmas.Bool.{cond-false, ne_eqb, cases_eq}
use Rattle.std.proofs.lemmas.Str.Parse.{IsNumeralModel, numerals_by_value, tells_digits}
use Rattle.std.proofs.lemmas.Fmt.{decimal-digits_value, parse-decimal, decimal_nonempty, first_decimal, decimal_digit}

-- decimal digits and the value that they give are a model of numerals
pub digits : IsNumeralModel (AllDigits 10) (digits_value 10)
digits = numerals_by_value (AllDigits 10) tells_digits

-- digits as a number is written: there is one, no sign, and no zero in front
pub record IsPlain (bytes : List ℕ) : Type 0 where
  -- there is at least one byte
  pub some : 0 < length bytes
  -- the first byte is no plus
  pub no_plus : get_or bytes 0 0 ≢ 43
  -- where the first byte is the digit 0, it is the only byte
  pub no_zero : get_or bytes 0 0 ≡ 48 → length bytes ≡ 1

no_plus_same : (bytes : List ℕ) → get_or bytes 0 0 ≢ 43 → without_leading_plus bytes ≡ bytes
no_plus_same bytes other = ap (λ (n : ℕ). drop n bytes) (cond-false (eqb (get_or bytes 0 0) 43) 1 0 (ne_eqb (get_or bytes 0 0) 43 other))

-- what is parsed of such digits is the number that is written so
pub number_told : {E : Type 0} (bytes : List ℕ) (n : ℕ) (parsed : Result ℕ E) → IsPlain bytes → ParsesUnsigned 32 10 bytes parsed →
    parsed ≡ Ok n → (n < 2 ^ 32) × (decimal n ≡ bytes)
number_told bytes n (Err e) plain parses is = absurd cc
number_told bytes n (Ok m) plain parses is =
    let bare = no_plus_same bytes plain.no_plus in
    let value : m ≡ digits_value 10 bytes = parses.1 ∙ ap (digits_value 10) bare in
    let small : digits_value 10 bytes < 2 ^ 32 = omega (arith, parses.0.1, ap (digits_value 10) bare) in
    let all : AllDigits 10 bytes = subst (AllDigits 10) bare parses.0.0.1 in
    let same : n ≡ m = cc in
    (omega (arith, same, value, small), ap decimal (same ∙ value) ∙ decimal-digits_value digits bytes all plain.some plain.no_zero (omega (arith, small)))

-- of a number that is written so the parsing succeeds
pub number_parsed : {E : Type 0} (bytes : List ℕ) (n : ℕ) (parsed : Result ℕ E) → n < 2 ^ 32 → decimal n ≡ bytes →
    ParsesUnsigned 32 10 bytes parsed → parsed ≡ Ok n
number_parsed bytes n parsed small same parses = parse-decimal 32 n bytes parsed small (omega arith) (sym same) parses

-- a number is written plainly
pub decimal_plain : (bytes : List ℕ) (n : ℕ) → n < 2 ^ 32 → decimal n ≡ bytes → IsPlain bytes
decimal_plain bytes n small same = subst IsPlain same (plain (cases_eq n 0))
  where
    plain : (n ≡ 0) ⊎ (n ≢ 0) → IsPlain (decimal n)
    plain (inl zero_is) =
        let zero_digit : IsPlain (48 ∷ []) = record { some = omega arith; no_plus = λ e. absurd (omega (arith, e)); no_zero = λ e. refl } in
        subst (λ (m : ℕ). IsPlain (decimal m)) (sym zero_is) (subst IsPlain (sym (decimal_digit 0 (omega arith))) zero_digit)
    plain (inr more) =
        let first = first_decimal n (omega arith) (omega arith) in record {
          some = decimal_nonempty n (omega arith);
          no_plus = λ e. absurd (omega (arith, e, first));
          no_zero = λ e. absurd (omega (arith, e, first));
        }

-- the first byte of a number is a digit
pub first_digit : (n : ℕ) → n < 2 ^ 32 → 48 ≤ get_or (decimal n) 0 0
first_digit n small = by (cases_eq n 0)
  where
    by : (n ≡ 0) ⊎ (n ≢ 0) → 48 ≤ get_or (decimal n) 0 0
    by (inl zero_is) =
        let written : decimal n ≡ 48 ∷ [] = ap decimal zero_is ∙ decimal_digit 0 (omega arith) in
        omega (arith, ap (λ (bytes : List ℕ). get_or bytes 0 0) written)
    by (inr more) = omega (arith, first_decimal n (omega arith) (omega arith))

-- a word behind a minus
pub minus_none : (word digits : List ℕ) → word ≡ 45 ∷ digits → ((n : ℕ) → 1 ≤ n → n < 2 ^ 32 → decimal n ≢ digits) →
    (z : ℤ) → size_of z < 2 ^ 32 → signed_decimal z ≢ word
minus_none word digits is none (pos n) small same =
    absurd (omega (arith, first_digit n small, ap (λ (bytes : List ℕ). get_or bytes 0 0) (same ∙ is)))
minus_none word digits is none (negsuc n) small same = none (suc n) (omega arith) small (ap (drop 1) (same ∙ is))

-- a word whose first byte is a minus is that minus and the bytes behind it
pub minus_parts : (word : List ℕ) → 0 < length word → get_or word 0 0 ≡ 45 → word ≡ 45 ∷ take (length word - 1) (drop 1 word)
minus_parts [] some is = absurd (omega arith)
minus_parts (x ∷ word) some is =
    let all = take_all word (length (x ∷ word) - 1) (omega arith) in
    ap (λ (first : ℕ). first ∷ word) is ∙ ap (λ (rest : List ℕ). 45 ∷ rest) (sym all)

-- a minus and the digits of a number from 1 on of 32 bits are how its negative is written
pub minus_some : (word : List ℕ) (size : ℕ) (z : ℤ) → 1 ≤ size → size < 2 ^ 32 → z ≡ neg_ℤ (pos size) → word ≡ 45 ∷ decimal size →
    (size_of z < 2 ^ 32) × (signed_decimal z ≡ word)
minus_some word zero z some small is parts = absurd (omega arith)
minus_some word (suc n) z some small is parts = subst (λ z. (size_of z < 2 ^ 32) × (signed_decimal z ≡ word)) (sym is) (small, sym parts)

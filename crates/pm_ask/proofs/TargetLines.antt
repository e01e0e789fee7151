-- The line of a target.
use Rattle.std.proofs.Common.{◌≡◌, ◌≢◌, ◌∙◌, sym, ap, ℕ, suc, ◌^◌, ◌<◌, ◌≤◌, ℤ, pos, negsuc, List, [], ◌∷◌, ◌++◌}
use Rattle.std.proofs.Common.{get_or, append_assoc, arith}
use Rattle.std.specs.Prelude.{decimal}
use Rattle.std.specs.Fmt.{signed_decimal}
use Rattle.std.proofs.lemmas.Fmt.{decimal_is_IsNumeral, signed_decimal_injective}
use Rattle.std.proofs.lemmas.Int.{ints}
use Rattle.std.proofs.lemmas.List.Elements.{All-cons}
use Rattle.std.proofs.lemmas.Str.Parse.{digit_at}
use Rattle.pm_base.specs.Limits.{IsWithin, demand_limit}
use Rattle.pm_envelope.specs.Lines.{HasNoLineFeed, IsFirstLine}
use Rattle.pm_envelope.proofs.FirstLines.{same_first_line}
use Rattle.pm_envelope.proofs.Numerals.{decimal_on_a_line}
use Rattle.pm_ask.specs.TargetLists.{target_line}
use lib.Signed.{mag}

-- the number of a target has no line feed
signed_on_a_line : (target : ℤ) → IsWithin demand_limit target → HasNoLineFeed (signed_decimal target)
signed_on_a_line (pos n) within = decimal_on_a_line n (omega (arith, ints, within.high))
signed_on_a_line (negsuc n) within =
    All-cons (λ byte. byte ≢ 10) 45 (decimal (suc n)) (λ h. absurd (omega arith)) (decimal_on_a_line (suc n) (omega (arith, ints, within.low)))

-- so the first line of a text that begins with a target's line is its number
pub target_is_first_line : (target : ℤ) (rest text : List ℕ) → IsWithin demand_limit target → text ≡ target_line target ++ rest
    → IsFirstLine text (signed_decimal target) rest
target_is_first_line target rest text within is =
    record { parts = is ∙ append_assoc (signed_decimal target) (10 ∷ []) rest; no_line_feed = signed_on_a_line target within }

small_mag : (target : ℤ) → IsWithin demand_limit target → mag target < 2 ^ 63
small_mag (pos n) within = omega (arith, ints, within.high)
small_mag (negsuc n) within = omega (arith, ints, within.low)

-- a line is that of one target
pub same_number : (target other : ℤ) → IsWithin demand_limit target → IsWithin demand_limit other → signed_decimal target ≡ signed_decimal other
    → target ≡ other
same_number target other within also same = signed_decimal_injective target other (small_mag target within) (small_mag other also) same

-- where two texts that begin with a target's line are equal, so are the targets and the rests
pub same_target : (target other : ℤ) (rest others : List ℕ) → IsWithin demand_limit target → IsWithin demand_limit other
    → target_line target ++ rest ≡ target_line other ++ others → (target ≡ other) × (rest ≡ others)
same_target target other rest others within also same =
    let text = target_line other ++ others in
    let parts = same_first_line text (signed_decimal target) rest (signed_decimal other) others
    (target_is_first_line target rest text within (sym same)) (target_is_first_line other others text also (λ i. text)) in
    (same_number target other within also parts.0, parts.1)

-- digits behind a minus sign are those of a number that is not 0
pub record IsNegated (digits : List ℕ) (number : ℕ) : Type 0 where
  -- the number is above 0
  pub positive : 0 < number
  -- the number is at most the limit of a demand
  pub small : number ≤ demand_limit
  -- the digits are the number in decimal
  pub written : digits ≡ decimal number

-- where a target's text is a minus sign and digits, these are a number above 0 within the limit of a demand
pub negated : (digits : List ℕ) (target : ℤ) → IsWithin demand_limit target → 45 ∷ digits ≡ signed_decimal target →
    (number : ℕ) × IsNegated digits number
negated digits (pos n) within is =
    let numeral = (decimal_is_IsNumeral n (omega (arith, ints, within.high))).0 in
    let digit = digit_at (decimal n) 0 numeral.1 numeral.0 in
    let first = ap (λ bytes. get_or bytes 0 0) is in
    absurd (omega (arith, first, digit.0))
negated digits (negsuc n) within is =
    (suc n, record { positive = omega arith; small = omega (arith, ints, within.low); written = cc })

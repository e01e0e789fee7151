-- A basis that is not refused lies within the limits.
use Rattle.std.proofs.Common.{◌≡◌, subst, refl, ℤ, pos, negsuc, neg_ℤ, ◌-ℤ◌, Bool, true, false, not, ◌||◌}
use Rattle.std.proofs.Common.{if◌then◌else◌, int_lt, int_rem, unsigned_abs, Ok, Err, arith}
use Rattle.std.specs.Ordering.{int_eq}
use Rattle.std.proofs.lemmas.Bool.{not-false}
use Rattle.std.proofs.lemmas.Int.{ints}
use Rattle.pm_base.specs.Limits.{least_steps, most_steps, price_limit}
use Rattle.pm_base.proofs.Bools.{or_false}
use Rattle.pm_base.proofs.Ints.{is_below, is_not_below}
use Rattle.pm_basis.specs.Prices.{BasisValue, IsBasis, checked_basis, has_bad_steps, has_bad_range, is_uneven}
use Rattle.pm_basis.specs.declared.fault.BasisFault.TheVariants.{BadSteps, BadRange, Uneven}

none_of_three : (a b c : Bool) (value basis : BasisValue) →
    (if a then Err BadSteps else (if b then Err BadRange else (if c then Err Uneven else Ok value))) ≡ Ok basis →
    (a ≡ false) × (b ≡ false) × (c ≡ false) × (value ≡ basis)
none_of_three true b c value basis is = absurd (cc is)
none_of_three false true c value basis is = absurd (cc is)
none_of_three false false true value basis is = absurd (cc is)
none_of_three false false false value basis is = let same : value ≡ basis = cc is in (refl, refl, refl, same)

ints_equal : (a b : ℤ) → int_eq a b ≡ true → a ≡ b
ints_equal a b is = grind (arith, ints)

-- the value that is accepted, by its steps as a count
accepted_basis : (min max steps : ℤ) → has_bad_steps steps ≡ false → has_bad_range min max ≡ false → is_uneven min max steps ≡ false →
    IsBasis (record { min = min; max = max; steps = unsigned_abs steps })
accepted_basis min max (pos n) few range even =
    let counts = or_false (int_lt (pos n) (pos least_steps)) (int_lt (pos most_steps) (pos n)) few in
    let parts = or_false (not (int_lt min max) || int_lt min (neg_ℤ (pos price_limit))) (int_lt (pos price_limit) max) range in
    let first = or_false (not (int_lt min max)) (int_lt min (neg_ℤ (pos price_limit))) parts.0 in
    record {
      steps = record {
        least = omega (arith, ints, is_not_below (pos n) (pos least_steps) counts.0);
        most = omega (arith, ints, is_not_below (pos most_steps) (pos n) counts.1);
      };
      order = is_below min max (not-false (int_lt min max) first.0);
      low = is_not_below min (neg_ℤ (pos price_limit)) first.1;
      high = is_not_below (pos price_limit) max parts.1;
      even =
          ints_equal (int_rem (max -ℤ min) (pos n -ℤ pos 1)) (pos 0)
          (not-false (int_eq (int_rem (max -ℤ min) (pos n -ℤ pos 1)) (pos 0)) even);
    }
accepted_basis min max (negsuc n) few range even = absurd (
    let counts = or_false (int_lt (negsuc n) (pos least_steps)) (int_lt (pos most_steps) (negsuc n)) few in
    omega (arith, ints, is_not_below (negsuc n) (pos least_steps) counts.0))

-- a basis that is not refused lies within the limits
pub checked_is_basis : (min max steps : ℤ) (basis : BasisValue) → checked_basis min max steps ≡ Ok basis → IsBasis basis
checked_is_basis min max steps basis is =
    let parts = none_of_three (has_bad_steps steps) (has_bad_range min max) (is_uneven min max steps)
    (record { min = min; max = max; steps = unsigned_abs steps }) basis is in
    subst IsBasis parts.3 (accepted_basis min max steps parts.0 parts.1 parts.2)

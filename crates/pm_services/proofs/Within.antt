-- Whether some step of a sum is within limits, as a test says it and as a law does.
use Rattle.std.proofs.Common.{◌≡◌, refl, ℕ, suc, zero, ◌<◌, ℤ, int_le, Bool, true, false, ◌&&◌, ◌||◌, List, [], ◌∷◌}
use Rattle.std.proofs.Common.{length, Option, Some, None, IsTrue, ◌↔◌, arith}
use Rattle.std.proofs.lemmas.Bool.{and_from, and_parts, or_left, or_right}
use Rattle.std.proofs.lemmas.Int.{ints}
use Rattle.std.specs.Cmp.{both_ways}
use Rattle.pm_base.specs.declared.limits.Limits.{Limits}
use Rattle.pm_bid.specs.Bids.{demand_at}
use Rattle.pm_bid.specs.Taken.{IsWithinLimits, HasStepWithin}
use Rattle.pm_relay.specs.Relays.{HasStepWithinAny}
use Rattle.pm_services.specs.RelayWrites.{some_within, some_within_any}

-- one that is within is found
found : (limits : Limits) (sum : List ℤ) (step : ℕ) → step < length sum → IsWithinLimits limits (demand_at sum step) → some_within limits sum ≡ true
found limits [] step inside keeps = absurd (omega (arith, inside))
found limits (d ∷ sum) zero inside keeps =
    or_left (int_le limits.floor d && int_le d limits.ceiling) (some_within limits sum)
    (and_from (int_le limits.floor d) (int_le d limits.ceiling) (grind (arith, ints, keeps.floor)) (grind (arith, ints, keeps.ceiling)))
found limits (d ∷ sum) (suc step) inside keeps =
    or_right (int_le limits.floor d && int_le d limits.ceiling) (some_within limits sum) (found limits sum step (omega (arith, inside)) keeps)

later : (limits : Limits) (d : ℤ) (sum : List ℤ) → HasStepWithin limits sum → HasStepWithin limits (d ∷ sum)
later limits d sum has = record { step = suc has.step; inside = omega (arith, has.inside); keeps = has.keeps }

here_or_later : (limits : Limits) (d : ℤ) (sum : List ℤ) (a : Bool) → (a ≡ true → IsWithinLimits limits d) →
    (some_within limits sum ≡ true → HasStepWithin limits sum) →
    (a || some_within limits sum) ≡ true → HasStepWithin limits (d ∷ sum)
here_or_later limits d sum true here rest is = record { step = zero; inside = omega arith; keeps = here refl }
here_or_later limits d sum false here rest is = later limits d sum (rest is)

-- and one that is found is within
within : (limits : Limits) (sum : List ℤ) → some_within limits sum ≡ true → HasStepWithin limits sum
within limits [] is = absurd (let e = is in cc)
within limits (d ∷ sum) is =
    here_or_later limits d sum (int_le limits.floor d && int_le d limits.ceiling)
    (λ both. let parts = and_parts (int_le limits.floor d) (int_le d limits.ceiling) both in record {
      floor = grind (arith, ints, parts.0);
      ceiling = grind (arith, ints, parts.1);
    }) (within limits sum) is

-- a test that passes where the law holds is the test of the sum
pub decided : (limits : Option Limits) (sum : List ℤ) (test : Bool) → (IsTrue test ↔ HasStepWithinAny limits sum) → test ≡ some_within_any limits sum
decided None sum test both = both.1 tt
decided (Some limits) sum test both =
    both_ways test (some_within limits sum) (λ is. let has = both.0 is in found limits sum has.step has.inside has.keeps)
    (λ is. both.1 (within limits sum is))

-- How far a price lies above the least one.
use Rattle.std.proofs.Common.{◌≡◌, ℕ, ◌*◌, ◌/◌, ◌≤◌, ℤ, pos, negsuc, ◌≤ℤ◌, arith}
use Rattle.std.specs.Ordering.{int_eq}
use Rattle.std.specs.Prelude.{◌*ℤ◌, int_div, int_rem, not, false}
use Rattle.std.proofs.Math.Nat.{div-le_of_le-mul, mul-le-mul_right}
use Rattle.std.proofs.lemmas.Int.{ints}

rise_of : (step last range : ℕ) → step ≤ last → step * range / last ≤ range
rise_of step last range within = div-le_of_le-mul last (mul-le-mul_right range within)

-- step * range / last is not negative, where none of the three is
pub rise_from : (step last range : ℤ) → pos 0 ≤ℤ last → pos 0 ≤ℤ step → pos 0 ≤ℤ range → pos 0 ≤ℤ int_div (step *ℤ range) last
rise_from (pos step) (pos last) (pos range) l s r = omega (arith, ints)
rise_from (pos step) (pos last) (negsuc range) l s r = absurd (omega (arith, ints))
rise_from (pos step) (negsuc last) range l s r = absurd (omega (arith, ints))
rise_from (negsuc step) last range l s r = absurd (omega (arith, ints))

-- step * range / last is at most the range, where step is at most last and none of the three is negative
pub rise_to : (step last range : ℤ) → pos 0 ≤ℤ last → pos 0 ≤ℤ step → step ≤ℤ last → pos 0 ≤ℤ range →
    int_div (step *ℤ range) last ≤ℤ range
rise_to (pos step) (pos last) (pos range) l s within r =
    let below : step ≤ last = omega (arith, ints) in
    omega (arith, ints, rise_of step last range below)
rise_to (pos step) (pos last) (negsuc range) l s within r = absurd (omega (arith, ints))
rise_to (pos step) (negsuc last) range l s within r = absurd (omega (arith, ints))
rise_to (negsuc step) last range l s within r = absurd (omega (arith, ints))

-- the same rise, by the numbers that the code computed
pub rise_is : (rise s r l step range last : ℤ) → rise ≡ int_div (s *ℤ r) l → s ≡ step → r ≡ range → l ≡ last →
    rise ≡ int_div (step *ℤ range) last
rise_is rise s r l step range last is same_step same_range same_last = cc

int_eq_is : (z : ℤ) → not (int_eq z (pos 0)) ≡ false → z ≡ pos 0
int_eq_is z h = grind (arith, ints)

-- a range that is divided without a rest
pub no_rest : (a b range parts : ℤ) → not (int_eq (int_rem a b) (pos 0)) ≡ false → a ≡ range → b ≡ parts → int_rem range parts ≡ pos 0
no_rest a b range parts none same_range same_parts =
    let here : int_rem a b ≡ pos 0 = int_eq_is (int_rem a b) none in
    cc

-- Products of whole numbers within limits, and parts of a number.
use Rattle.std.proofs.Common.{◌≡◌, ◌∙◌, ap, ℕ, zero, suc, ◌+◌, ◌*◌, ◌^◌, ◌<◌, ◌≤◌, ℤ, pos, negsuc, neg_ℤ}
use Rattle.std.proofs.Common.{◌+ℤ◌, ◌-ℤ◌, ◌*ℤ◌, ◌≤ℤ◌, w64, to_z, of_z, arith}
use Rattle.std.specs.Prelude.{unsigned_abs, IsTrue}
use Rattle.std.specs.Int.{w128}
use Rattle.std.proofs.Math.Nat.{mul-le-mul}
use Rattle.std.proofs.Math.IntN.{zero-*ℤ, suc_ℤ-*ℤ, *ℤ_comm, *ℤ-negsuc}
use Rattle.std.proofs.lemmas.Int.{ints, unsigned_abs-mul}
use mir.Val.{SFits}
use Rattle.pm_base.specs.Limits.{IsWithin, price_limit, sum_limit}
use Rattle.pm_base.proofs.Ints.{none-within}
use Rattle.pm_device.specs.Kinds.{minutes_limit}
use Rattle.pm_plan.specs.Kept.{are_minutes}
use Rattle.pm_bill.specs.Accounts.{positive_part, cost_limit}

abs_within : (limit : ℕ) (z : ℤ) → IsWithin limit z → unsigned_abs z ≤ limit
abs_within limit z within = omega (arith, ints)

within_abs : (limit : ℕ) (z : ℤ) → unsigned_abs z ≤ limit → IsWithin limit z
within_abs limit z small = record { low = omega (arith, ints); high = omega (arith, ints) }

-- a product lies within the product of the limits
pub product_within : (a b : ℕ) (x y : ℤ) → IsWithin a x → IsWithin b y → IsWithin (a * b) (x *ℤ y)
product_within a b x y x_within y_within =
    within_abs (a * b) (x *ℤ y) (rw unsigned_abs-mul (mul-le-mul (abs_within a x x_within) (abs_within b y y_within)))

-- a sum lies within the sum of the limits
pub sum_within : (a b c : ℕ) (x y : ℤ) → a + b ≡ c → IsWithin a x → IsWithin b y → IsWithin c (x +ℤ y)
sum_within a b c x y is x_within y_within = record { low = omega (arith, ints); high = omega (arith, ints) }

-- products of the same numbers are one
pub same_product : {x x' y y' : ℤ} → x ≡ x' → y ≡ y' → x *ℤ y ≡ x' *ℤ y'
same_product {x} {x'} {y} {y'} one other = ap (λ z. z *ℤ y) one ∙ ap (λ z. x' *ℤ z) other

-- a sum times a number
times_sum : (a b : ℤ) (n : ℕ) → pos n *ℤ (a +ℤ b) ≡ (pos n *ℤ a) +ℤ (pos n *ℤ b)
times_sum a b zero = omega (arith, ints, zero-*ℤ (a +ℤ b), zero-*ℤ a, zero-*ℤ b)
times_sum a b (suc n) =
    let before = times_sum a b n in
    omega (arith, ints, before, suc_ℤ-*ℤ (pos n) (a +ℤ b), suc_ℤ-*ℤ (pos n) a, suc_ℤ-*ℤ (pos n) b)

sum-times_pos : (a b : ℤ) (n : ℕ) → (a +ℤ b) *ℤ pos n ≡ (a *ℤ pos n) +ℤ (b *ℤ pos n)
sum-times_pos a b n = omega (arith, ints, times_sum a b n, *ℤ_comm (a +ℤ b) (pos n), *ℤ_comm a (pos n), *ℤ_comm b (pos n))

-- a sum times any number
pub sum-times : (a b m : ℤ) → (a +ℤ b) *ℤ m ≡ (a *ℤ m) +ℤ (b *ℤ m)
sum-times a b (pos n) = sum-times_pos a b n
sum-times a b (negsuc n) =
    omega (arith, ints, sum-times_pos a b (suc n), *ℤ-negsuc (a +ℤ b) n, *ℤ-negsuc a n, *ℤ-negsuc b n)

-- a number times the minutes of a tick
pub minutes_within : (minutes : ℤ) → IsTrue (are_minutes minutes) → IsWithin minutes_limit minutes
minutes_within minutes are = record { low = grind (arith, ints); high = grind (arith, ints) }

-- a tick has a minute at least
pub minutes_positive : (minutes : ℤ) → IsTrue (are_minutes minutes) → pos 1 ≤ℤ minutes
minutes_positive minutes are = grind (arith, ints)

-- the positive part of a number within a limit
pub positive_part_within : (limit : ℕ) (z : ℤ) → IsWithin limit z → IsWithin limit (positive_part z)
positive_part_within limit (pos n) within = within
positive_part_within limit (negsuc n) within = none-within limit

-- what a price and a power come to, as the code computes it
pub record Costs (price power cost : ℤ) : Type 0 where
  -- the cost as a number of 128 bits is the price times the power
  pub computed : to_z w128 (of_z w128 cost) ≡ price *ℤ power
  -- the price times the power lies within the product of the limits of a price and of a sum
  pub within : IsWithin (price_limit * sum_limit) (price *ℤ power)

-- the cost that the code computes is that of the price and the power
pub computed_cost : (price power cost : ℤ) → IsWithin price_limit price → IsWithin sum_limit power →
    cost ≡ to_z w64 (of_z w64 price) *ℤ to_z w64 (of_z w64 power) → Costs price power cost
computed_cost price power cost price_within power_within is =
    let price_is : to_z w64 (of_z w64 price) ≡ price = omega (arith, ints, price_within) in
    let power_is : to_z w64 (of_z w64 power) ≡ power = omega (arith, ints, power_within) in
    let same : cost ≡ price *ℤ power = is ∙ same_product price_is power_is in
    let within = product_within price_limit sum_limit price power price_within power_within in
    let fits : to_z w128 (of_z w128 (price *ℤ power)) ≡ price *ℤ power = omega (arith, ints, within) in
    record { computed = ap (λ z. to_z w128 (of_z w128 z)) same ∙ fits; within = within }

-- a number within a limit of 63 bits lies within it as a number of 64 bits too
pub word_within : (limit : ℕ) (number : ℤ) → limit < 2 ^ 63 → IsWithin limit number → IsWithin limit (to_z w64 (of_z w64 number))
word_within limit number small within = record { low = omega (arith, ints, small, within); high = omega (arith, ints, small, within) }

-- the opposite of a number of 128 bits, as the code computes it
abbrev pub opposite_of : ℤ → ℤ
opposite_of number = pos 0 -ℤ to_z w128 (of_z w128 number)

-- where the number lies within the limit of a minute's cost, it fits
pub opposite_fits : (number : ℤ) → IsWithin cost_limit number → SFits w128 (opposite_of number)
opposite_fits number within = omega (arith, ints, within)

-- it is the opposite
pub opposite_is : (number : ℤ) → IsWithin cost_limit number → to_z w128 (of_z w128 (opposite_of number)) ≡ neg_ℤ number
opposite_is number within = omega (arith, ints, within)

-- and it lies within the limit too
pub opposite_within : (number : ℤ) → IsWithin cost_limit number → IsWithin cost_limit (to_z w128 (of_z w128 (opposite_of number)))
opposite_within number within = record { low = omega (arith, ints, within); high = omega (arith, ints, within) }

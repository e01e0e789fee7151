-- Products and quotients that are rounded down or up, and their limits.
use Rattle.std.proofs.Common.{ℕ, ◌*◌, ◌≤◌, ℤ, pos, negsuc, ◌*ℤ◌, ◌≤ℤ◌, ◌<ℤ◌, arith}
use Rattle.std.proofs.Math.Nat.{div-le_self, mul-le-mul}
use Rattle.std.proofs.lemmas.Int.{ints}
use Rattle.pm_base.specs.Limits.{demand_limit, IsWithin}
use Rattle.pm_device.specs.Ticks.{floor_div}
use Rattle.pm_strategy.specs.Steps.{last_limit}

-- a part times the last step
pub product_within : (part : ℤ) (last : ℕ) → pos 0 ≤ℤ part → part ≤ℤ pos demand_limit → last ≤ last_limit →
    IsWithin (demand_limit * last_limit) (part *ℤ pos last)
product_within (pos n) last low high small =
    let part_small : n ≤ demand_limit = omega (arith, ints) in
    let product : n * last ≤ demand_limit * last_limit = mul-le-mul part_small small in
    record { low = omega (arith, ints); high = omega (arith, ints) }
product_within (negsuc n) last low high small = absurd (omega (arith, ints))

-- a quotient is within the limit of its number
pub floor_div-within : (limit : ℕ) (number divisor : ℤ) → IsWithin limit number → pos 0 <ℤ divisor → IsWithin limit (floor_div number divisor)
floor_div-within limit (pos n) (pos d) within above =
    let smaller = div-le_self n d in
    record { low = omega (arith, ints); high = omega (arith, ints) }
floor_div-within limit (negsuc n) (pos d) within above =
    let smaller = div-le_self n d in
    record { low = omega (arith, ints); high = omega (arith, ints) }
floor_div-within limit number (negsuc d) within above = absurd (omega (arith, ints))

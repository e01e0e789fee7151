-- Numbers within the limits of devices, as 64 bits hold them.
use Rattle.std.proofs.Common.{◌≡◌, ℤ, pos, ◌-ℤ◌, ◌≤ℤ◌, ◌<ℤ◌, int_le, IsTrue, false, w64, FitsSigned, to_z, of_z, arith}
use Rattle.std.proofs.lemmas.Int.{ints}
use Rattle.pm_base.specs.Limits.{demand_limit}
use Rattle.pm_device.specs.Kinds.{is_temperature, is_band, is_power, is_battery, is_between, capacity_limit}
use Rattle.pm_device.proofs.Between.{Between, is_temperature-tells, is_band-tells, is_power-tells, is_battery-tells, is_between-tells}

-- a power stays one
pub power_kept : (n : ℤ) → IsTrue (is_power n) → IsTrue (is_power (to_z w64 (of_z w64 n)))
power_kept n h =
    let within = is_power-tells n h in
    let same : to_z w64 (of_z w64 n) ≡ n = omega (arith, ints) in
    rw same h

-- the ends of a band stay so
pub band_kept : (low high : ℤ) → IsTrue (is_band low high) → IsTrue (is_band (to_z w64 (of_z w64 low)) (to_z w64 (of_z w64 high)))
band_kept low high h =
    let band = is_band-tells low high h in
    let same_low : to_z w64 (of_z w64 low) ≡ low = omega (arith, ints) in
    let same_high : to_z w64 (of_z w64 high) ≡ high = omega (arith, ints) in
    rw (same_low, same_high) h

-- the parameters of a battery stay so
pub battery_kept : (capacity charge discharge spread : ℤ) → IsTrue (is_battery capacity charge discharge spread) →
    IsTrue (is_battery (to_z w64 (of_z w64 capacity)) (to_z w64 (of_z w64 charge)) (to_z w64 (of_z w64 discharge))
    (to_z w64 (of_z w64 spread)))
battery_kept capacity charge discharge spread h =
    let within = is_battery-tells capacity charge discharge spread h in
    let same_capacity : to_z w64 (of_z w64 capacity) ≡ capacity = omega (arith, ints) in
    let same_charge : to_z w64 (of_z w64 charge) ≡ charge = omega (arith, ints) in
    let same_discharge : to_z w64 (of_z w64 discharge) ≡ discharge = omega (arith, ints) in
    let same_spread : to_z w64 (of_z w64 spread) ≡ spread = omega (arith, ints) in
    rw (same_capacity, same_charge, same_discharge, same_spread) h

-- a charge within the capacity stays so
pub charge_kept : (capacity stored : ℤ) → Between (pos 1) (pos capacity_limit) capacity → IsTrue (is_between (pos 0) capacity stored) →
    IsTrue (is_between (pos 0) (to_z w64 (of_z w64 capacity)) (to_z w64 (of_z w64 stored)))
charge_kept capacity stored limits h =
    let within = is_between-tells (pos 0) capacity stored h in
    let same_capacity : to_z w64 (of_z w64 capacity) ≡ capacity = omega (arith, ints) in
    let same_stored : to_z w64 (of_z w64 stored) ≡ stored = omega (arith, ints) in
    rw (same_capacity, same_stored) h

-- a part that is not negative and a whole above 0, as 64 bits hold them
pub record PartOf (part whole : ℤ) : Type 0 where
  -- the part fits
  pub part_fits : FitsSigned w64 part
  -- the whole fits
  pub whole_fits : FitsSigned w64 whole
  -- the part is not negative
  pub not_negative : pos 0 ≤ℤ to_z w64 (of_z w64 part)
  -- the part is within the limit of demands
  pub small : to_z w64 (of_z w64 part) ≤ℤ pos demand_limit
  -- the whole is above 0
  pub positive : pos 0 <ℤ to_z w64 (of_z w64 whole)

part_of : (part whole : ℤ) → Between (pos 0) (pos demand_limit) part → Between (pos 1) (pos demand_limit) whole → PartOf part whole
part_of part whole p w =
    let same_part : to_z w64 (of_z w64 part) ≡ part = omega (arith, ints) in
    let same_whole : to_z w64 (of_z w64 whole) ≡ whole = omega (arith, ints) in
    record {
      part_fits = omega (arith, ints);
      whole_fits = omega (arith, ints);
      not_negative = rw same_part p.from;
      small = rw same_part p.to;
      positive = omega (arith, ints);
    }

is_above : (a b : ℤ) → int_le b a ≡ false → a <ℤ b
is_above a b h = grind (arith, ints)

-- how far a temperature lies above the low end of a band, of the band
pub above_low : (low high n : ℤ) → IsTrue (is_band low high) → IsTrue (is_temperature n) →
    int_le (to_z w64 (of_z w64 n)) (to_z w64 (of_z w64 low)) ≡ false →
    PartOf (to_z w64 (of_z w64 n) -ℤ to_z w64 (of_z w64 low)) (to_z w64 (of_z w64 high) -ℤ to_z w64 (of_z w64 low))
above_low low high n within temperature above =
    let band = is_band-tells low high within in
    let at = is_temperature-tells n temperature in
    let less = is_above (to_z w64 (of_z w64 low)) (to_z w64 (of_z w64 n)) above in
    part_of _ _ (record { from = omega (arith, ints); to = omega (arith, ints) })
    (record { from = omega (arith, ints); to = omega (arith, ints) })

-- how far a temperature lies below the high end of a band, of the band
pub below_high : (low high n : ℤ) → IsTrue (is_band low high) → IsTrue (is_temperature n) →
    int_le (to_z w64 (of_z w64 high)) (to_z w64 (of_z w64 n)) ≡ false →
    PartOf (to_z w64 (of_z w64 high) -ℤ to_z w64 (of_z w64 n)) (to_z w64 (of_z w64 high) -ℤ to_z w64 (of_z w64 low))
below_high low high n within temperature below =
    let band = is_band-tells low high within in
    let at = is_temperature-tells n temperature in
    let less = is_above (to_z w64 (of_z w64 n)) (to_z w64 (of_z w64 high)) below in
    part_of _ _ (record { from = omega (arith, ints); to = omega (arith, ints) })
    (record { from = omega (arith, ints); to = omega (arith, ints) })

-- what a battery still takes, of its capacity
pub room_left : (capacity stored : ℤ) → Between (pos 1) (pos capacity_limit) capacity → IsTrue (is_between (pos 0) capacity stored) →
    PartOf (capacity -ℤ stored) capacity
room_left capacity stored limits within =
    let charged = is_between-tells (pos 0) capacity stored within in
    part_of (capacity -ℤ stored) capacity (record { from = omega (arith, ints); to = omega (arith, ints) })
    (record { from = limits.from; to = omega (arith, ints) })

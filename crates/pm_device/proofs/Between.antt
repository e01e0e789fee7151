-- What the tests of limits say, as facts that arithmetic reads.
use Rattle.std.proofs.Common.{arith, ℤ, pos, neg_ℤ, ◌≤ℤ◌, ◌<ℤ◌, int_lt, IsTrue, Bool, true, false, ◌&&◌, ◌≡◌, w64, to_z, of_z}
use Rattle.std.proofs.lemmas.Int.{ints}
use Rattle.pm_device.specs.Kinds.{temperature_limit, change_limit, power_limit, capacity_limit, spread_limit, is_between, is_temperature, is_band, is_change}
use Rattle.pm_device.specs.Kinds.{are_changes, is_power, is_thermal, is_battery}

-- a number in low..=high
pub record Between (low high number : ℤ) : Type 0 where
  -- the number is at least the low end
  pub from : low ≤ℤ number
  -- the number is at most the high end
  pub to : number ≤ℤ high

-- what the test of a number says, and when it is true
pub is_between-tells : (low high number : ℤ) → IsTrue (is_between low high number) → Between low high number
is_between-tells low high number h = record { from = grind (arith, ints); to = grind (arith, ints) }

-- a number in low..=high passes the test of it
pub is_between-holds : (low high number : ℤ) → Between low high number → IsTrue (is_between low high number)
is_between-holds low high number h = grind (arith, ints)

-- what passes as a temperature is at most the limit of temperatures away from 0
pub is_temperature-tells : (number : ℤ) → IsTrue (is_temperature number) → Between (neg_ℤ (pos temperature_limit)) (pos temperature_limit) number
is_temperature-tells number h = is_between-tells (neg_ℤ (pos temperature_limit)) (pos temperature_limit) number h

-- a temperature stays one as 64 bits
pub temperature_kept : (n : ℤ) → IsTrue (is_temperature n) → IsTrue (is_temperature (to_z w64 (of_z w64 n)))
temperature_kept n h =
    let within = is_temperature-tells n h in
    let same : to_z w64 (of_z w64 n) ≡ n = omega (arith, ints) in
    rw same h

-- what passes as a temperature's change lies between 0 and the limit of changes
pub is_change-tells : (number : ℤ) → IsTrue (is_change number) → Between (pos 0) (pos change_limit) number
is_change-tells number h = is_between-tells (pos 0) (pos change_limit) number h

-- both tests are true
pub both_true : (a b : Bool) → IsTrue (a && b) → IsTrue a × IsTrue b
both_true true true h = (h, h)
both_true true false h = cc
both_true false b h = cc

-- what passes as a power lies between 0 and the limit of powers
pub is_power-tells : (number : ℤ) → IsTrue (is_power number) → Between (pos 0) (pos power_limit) number
is_power-tells number h = is_between-tells (pos 0) (pos power_limit) number h

-- the ends of a band
pub record Band (low high : ℤ) : Type 0 where
  -- the low end is at most the limit of temperatures away from 0
  pub lower : Between (neg_ℤ (pos temperature_limit)) (pos temperature_limit) low
  -- the high end is at most the limit of temperatures away from 0
  pub upper : Between (neg_ℤ (pos temperature_limit)) (pos temperature_limit) high
  -- the low end is below the high end
  pub order : low <ℤ high

int_lt-tells : (low high : ℤ) → IsTrue (int_lt low high) → low <ℤ high
int_lt-tells low high h = grind (arith, ints)

-- what passes as the ends of a band are temperatures within the limit, the low below the high
pub is_band-tells : (low high : ℤ) → IsTrue (is_band low high) → Band low high
is_band-tells low high h =
    let ends = both_true (is_temperature low && is_temperature high) (int_lt low high) h in
    let each = both_true (is_temperature low) (is_temperature high) ends.0 in
    record {
      lower = is_temperature-tells low each.0;
      upper = is_temperature-tells high each.1;
      order = int_lt-tells low high ends.1;
    }

-- the parameters of a device that keeps a temperature, as far as its bid reads them
pub record Thermal (low high power : ℤ) : Type 0 where
  -- the two ends pass as a band of temperatures
  pub ends : IsTrue (is_band low high)
  -- the device's power passes as a power
  pub rated : IsTrue (is_power power)

-- what passes as the parameters of a device that keeps a temperature has a band's ends and a power
pub is_thermal-tells : (low high power drift effect : ℤ) → IsTrue (is_thermal low high power drift effect) → Thermal low high power
is_thermal-tells low high power drift effect h =
    let front = both_true (is_band low high && is_power power) (are_changes drift effect) h in
    let each = both_true (is_band low high) (is_power power) front.0 in
    record { ends = each.0; rated = each.1 }

-- the parameters of a battery
pub record Battery (capacity charge discharge spread : ℤ) : Type 0 where
  -- the capacity lies between 1 and its limit
  pub capacity_within : Between (pos 1) (pos capacity_limit) capacity
  -- the power of charging lies between 0 and the limit of powers
  pub charge_within : Between (pos 0) (pos power_limit) charge
  -- the power of discharging lies between 0 and the limit of powers
  pub discharge_within : Between (pos 0) (pos power_limit) discharge
  -- the spread lies between 0 and its limit
  pub spread_within : Between (pos 0) (pos spread_limit) spread

-- what passes as the parameters of a battery lies within the limits of each
pub is_battery-tells : (capacity charge discharge spread : ℤ) → IsTrue (is_battery capacity charge discharge spread) →
    Battery capacity charge discharge spread
is_battery-tells capacity charge discharge spread h =
    let first = is_between (pos 1) (pos capacity_limit) capacity in
    let all = both_true (first && is_power charge && is_power discharge) (is_between (pos 0) (pos spread_limit) spread) h in
    let three = both_true (first && is_power charge) (is_power discharge) all.0 in
    let two = both_true first (is_power charge) three.0 in
    record {
      capacity_within = is_between-tells (pos 1) (pos capacity_limit) capacity two.0;
      charge_within = is_power-tells charge two.1;
      discharge_within = is_power-tells discharge three.1;
      spread_within = is_between-tells (pos 0) (pos spread_limit) spread all.1;
    }

-- a test that comes last, after two that are true
pub last_of_three : (a b last r : Bool) → a ≡ true → b ≡ true → r ≡ last → r ≡ (a && b && last)
last_of_three true true last r ha hb h = h
last_of_three true false last r ha hb h = cc
last_of_three false b last r ha hb h = cc

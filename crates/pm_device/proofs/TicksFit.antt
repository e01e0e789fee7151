-- What a tick makes of a state that fits, fits.
use Rattle.std.proofs.Common.{ℤ, pos, neg_ℤ, ◌≤ℤ◌, ◌+ℤ◌, ◌-ℤ◌, ◌*ℤ◌, IsTrue, arith}
use Rattle.std.proofs.lemmas.Int.{ints, clamps}
use Rattle.pm_device.specs.Kinds.{is_valid, state_fits, temperature_limit, is_temperature, is_between}
use Rattle.pm_device.specs.Ticks.{tick, nearest_between, nearest_temperature, change_if, takes_power, delivers_power, floor_div}
use Rattle.pm_device.specs.declared.kind.Kind.{Kind}
use Rattle.pm_device.specs.declared.kind.Kind.TheVariants.{Freezer, HeatPump, Cogeneration, Battery}
use Rattle.pm_device.proofs.Between.{is_between-holds, is_battery-tells}

nearest-fits : (low high x : ℤ) → low ≤ℤ high → IsTrue (is_between low high (nearest_between low high x))
nearest-fits low high x order =
    is_between-holds low high (nearest_between low high x) (record { from = omega (arith, ints, clamps); to = omega (arith, ints, clamps) })

temperature-fits : (x : ℤ) → IsTrue (is_temperature (nearest_temperature x))
temperature-fits x = nearest-fits (neg_ℤ (pos temperature_limit)) (pos temperature_limit) x (omega (arith, ints))

-- what a tick makes of a state that fits, fits
pub tick-fits : (kind : Kind) (state power minutes : ℤ) → IsTrue (is_valid kind) → IsTrue (state_fits kind state) →
    IsTrue (state_fits kind (tick kind state power minutes))
unfolding tick
tick-fits (Freezer low high rated warm cool) state power minutes valid fits = temperature-fits ((state +ℤ warm) -ℤ change_if (takes_power power) cool)
tick-fits (HeatPump low high rated loss gain) state power minutes valid fits = temperature-fits ((state -ℤ loss) +ℤ change_if (takes_power power) gain)
tick-fits (Cogeneration low high rated loss gain) state power minutes valid fits = temperature-fits
    ((state -ℤ loss) +ℤ change_if (delivers_power power) gain)
tick-fits (Battery capacity charge discharge spread) state power minutes valid fits =
    let least = (is_battery-tells capacity charge discharge spread valid).capacity_within in
    nearest-fits (pos 0) capacity (state +ℤ floor_div (power *ℤ minutes) (pos 60)) (omega (arith, ints, least.from))
tick-fits _ state power minutes valid fits = fits

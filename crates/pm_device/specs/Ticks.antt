-- What a tick makes of the state of a device.
use Rattle.std.specs.Prelude.{ℤ, pos, ◌+ℤ◌, ◌-ℤ◌, ◌*ℤ◌, neg_ℤ, Bool, if◌then◌else◌, int_lt}
use Rattle.std.specs.Int.{int_max, int_min, int_div_euclid}
use Rattle.pm_device.specs.Kinds.{temperature_limit}
use Rattle.pm_device.specs.declared.kind.Kind.{Kind}
use Rattle.pm_device.specs.declared.kind.Kind.TheVariants.{Freezer, HeatPump, Cogeneration, Battery, Solar, Load, Objective, Manual}

-- the number in low..=high that is nearest
abbrev pub nearest_between : ℤ → ℤ → ℤ → ℤ
nearest_between low high number = int_max low (int_min number high)

-- the quotient by a divisor above 0, rounded down
abbrev pub floor_div : ℤ → ℤ → ℤ
floor_div number divisor = int_div_euclid number divisor

-- whether the device took power from the cluster, and whether it delivered power
abbrev pub takes_power : ℤ → Bool
takes_power power = int_lt (pos 0) power

abbrev pub delivers_power : ℤ → Bool
delivers_power power = int_lt power (pos 0)

-- a change of the temperature if it is so, else none
abbrev pub change_if : Bool → ℤ → ℤ
change_if so change = if so then change else pos 0

-- the temperature within the limits that is nearest
abbrev pub nearest_temperature : ℤ → ℤ
nearest_temperature temperature = nearest_between (neg_ℤ (pos temperature_limit)) (pos temperature_limit) temperature

-- a freezer's temperature after a tick: it warms up, and it cools down if it ran
abbrev pub freezer_after : ℤ → ℤ → ℤ → Bool → ℤ
freezer_after temperature warm cool ran = nearest_temperature ((temperature +ℤ warm) -ℤ change_if ran cool)

-- the temperature of a room or a buffer after a tick: it loses heat, and it gains heat if the device ran
abbrev pub heated_after : ℤ → ℤ → ℤ → Bool → ℤ
heated_after temperature loss gain ran = nearest_temperature ((temperature -ℤ loss) +ℤ change_if ran gain)

-- a battery's charge after so many minutes at a power in watts, in whole watt-hours
abbrev pub charge_after : ℤ → ℤ → ℤ → ℤ → ℤ
charge_after capacity stored power minutes =
    nearest_between (pos 0) capacity (stored +ℤ floor_div (power *ℤ minutes) (pos 60))

-- the state after a tick of so many minutes at a power in watts; kinds without ticks keep their state
unfoldable pub tick : Kind → ℤ → ℤ → ℤ → ℤ
tick (Freezer low high rated warm cool) temperature power minutes = freezer_after temperature warm cool (takes_power power)
tick (HeatPump low high rated loss gain) temperature power minutes = heated_after temperature loss gain (takes_power power)
tick (Cogeneration low high rated loss gain) temperature power minutes =
    heated_after temperature loss gain (delivers_power power)
tick (Battery capacity charge discharge spread) stored power minutes = charge_after capacity stored power minutes
tick Solar output power minutes = output
tick Load taken power minutes = taken
tick Objective target power minutes = target
tick Manual number power minutes = number

-- Which parameters the kinds of device may have, and which states.
use Rattle.std.specs.Prelude.{ℕ, ℤ, pos, neg_ℤ, Bool, true, false, ◌&&◌, int_lt, int_le}
use Rattle.pm_device.specs.declared.kind.Kind.{Kind}
use Rattle.pm_device.specs.declared.kind.Kind.TheVariants.{Freezer, HeatPump, Cogeneration, Battery, Solar, Load, Objective, Manual}

-- the largest absolute value of a temperature, in the units of the cluster file
abbrev pub temperature_limit : ℕ
temperature_limit = 1000000

-- the most that one cause changes a temperature by in a tick
abbrev pub change_limit : ℕ
change_limit = 1000000

-- the most power of one device, in watts
abbrev pub power_limit : ℕ
power_limit = 1000000000

-- the most charge of a battery, in watt-hours
abbrev pub capacity_limit : ℕ
capacity_limit = 1000000000

-- the most steps between a battery's middle step and those where it charges or discharges
abbrev pub spread_limit : ℕ
spread_limit = 1000

-- the most minutes of a tick: a day
abbrev pub minutes_limit : ℕ
minutes_limit = 1440

-- whether a number lies in low..=high
abbrev pub is_between : ℤ → ℤ → ℤ → Bool
is_between low high number = int_le low number && int_le number high

-- whether a number is a temperature
abbrev pub is_temperature : ℤ → Bool
is_temperature number = is_between (neg_ℤ (pos temperature_limit)) (pos temperature_limit) number

-- whether two numbers are the ends of a band of temperatures, which is not empty
abbrev pub is_band : ℤ → ℤ → Bool
is_band low high = is_temperature low && is_temperature high && int_lt low high

-- whether a number is a temperature's change in one tick for one cause
abbrev pub is_change : ℤ → Bool
is_change number = is_between (pos 0) (pos change_limit) number

-- whether two numbers are such changes
abbrev pub are_changes : ℤ → ℤ → Bool
are_changes drift effect = is_change drift && is_change effect

-- whether a number is a power without direction, in watts
abbrev pub is_power : ℤ → Bool
is_power number = is_between (pos 0) (pos power_limit) number

-- whether a device that keeps a temperature may have these parameters: its band, its power, and the changes of the
-- temperature in a tick, by itself and by the device
abbrev pub is_thermal : ℤ → ℤ → ℤ → ℤ → ℤ → Bool
is_thermal low high power drift effect = is_band low high && is_power power && are_changes drift effect

-- whether a battery may have these parameters
abbrev pub is_battery : ℤ → ℤ → ℤ → ℤ → Bool
is_battery capacity charge discharge spread =
    is_between (pos 1) (pos capacity_limit) capacity && is_power charge && is_power discharge && is_between (pos 0) (pos spread_limit) spread

-- whether the parameters of a kind lie within their limits
abbrev pub is_valid : Kind → Bool
is_valid (Freezer low high power warm cool) = is_thermal low high power warm cool
is_valid (HeatPump low high power loss gain) = is_thermal low high power loss gain
is_valid (Cogeneration low high power loss gain) = is_thermal low high power loss gain
is_valid (Battery capacity charge discharge spread) = is_battery capacity charge discharge spread
is_valid Solar = true
is_valid Load = true
is_valid Objective = true
is_valid Manual = true

-- whether a device of the kind may have the state
abbrev pub state_fits : Kind → ℤ → Bool
state_fits (Freezer low high power warm cool) temperature = is_temperature temperature
state_fits (HeatPump low high power loss gain) temperature = is_temperature temperature
state_fits (Cogeneration low high power loss gain) temperature = is_temperature temperature
state_fits (Battery capacity charge discharge spread) stored = is_between (pos 0) capacity stored
state_fits Solar output = is_power output
state_fits Load power = is_power power
state_fits Objective target = is_between (neg_ℤ (pos power_limit)) (pos power_limit) target
state_fits Manual number = int_le (pos 0) number

-- whether the state of a kind changes by itself at a tick
abbrev pub has_ticks : Kind → Bool
has_ticks (Freezer low high power warm cool) = true
has_ticks (HeatPump low high power loss gain) = true
has_ticks (Cogeneration low high power loss gain) = true
has_ticks (Battery capacity charge discharge spread) = true
has_ticks Solar = false
has_ticks Load = false
has_ticks Objective = false
has_ticks Manual = false

-- The bid of a device, by its kind and its state.
use Rattle.std.specs.Prelude.{ℕ, ◌-◌, ℤ, pos, negsuc, ◌+ℤ◌, ◌-ℤ◌, neg_ℤ, int_lt, int_le, if◌then◌else◌, List, slice_index_or}
use Rattle.pm_bid.specs.Bids.{zeros}
use Rattle.pm_device.specs.declared.kind.Kind.{Kind}
use Rattle.pm_device.specs.declared.kind.Kind.TheVariants.{Freezer, HeatPump, Cogeneration, Battery, Solar, Load, Objective, Manual}
use Rattle.pm_strategy.specs.Steps.{by_step, share, share_up, up_to, from_on}

-- a freezer's demand in watts at a step: always if it is too warm, never if it is cold enough, and between
-- these up to a step that is higher the warmer it is
abbrev pub freezer_demand : ℤ → ℤ → ℤ → ℤ → ℕ → ℕ → ℤ
freezer_demand low high power temperature last step =
    if int_le high temperature then power
    else (if int_le temperature low then pos 0
    else up_to power (share (temperature -ℤ low) (high -ℤ low) last) step)

-- a heat pump's demand: always if the room is too cold, never if it is warm enough, and between these up to a
-- step that is higher the colder it is
abbrev pub heat_pump_demand : ℤ → ℤ → ℤ → ℤ → ℕ → ℕ → ℤ
heat_pump_demand low high power temperature last step =
    if int_le temperature low then power
    else (if int_le high temperature then pos 0
    else up_to power (share (high -ℤ temperature) (high -ℤ low) last) step)

-- a cogeneration unit's demand, which is negative if it delivers: always if the buffer is too cold, never if
-- it is hot enough, and between these from a step on that is lower the colder it is
abbrev pub cogeneration_demand : ℤ → ℤ → ℤ → ℤ → ℕ → ℕ → ℤ
cogeneration_demand low high power temperature last step =
    if int_le temperature low then neg_ℤ power
    else (if int_le high temperature then pos 0
    else from_on (neg_ℤ power) (share_up (temperature -ℤ low) (high -ℤ low) last) step)

-- a battery's demand round a middle step, which is lower the fuller the battery is: it charges more than `spread`
-- steps below, and discharges more than `spread` steps above
abbrev pub around : ℤ → ℤ → ℤ → ℤ → ℕ → ℤ
around middle charge discharge spread step =
    if int_lt (pos step +ℤ spread) middle then charge
    else (if int_lt (middle +ℤ spread) (pos step) then neg_ℤ discharge else pos 0)

abbrev pub battery_demand : ℤ → ℤ → ℤ → ℤ → ℤ → ℕ → ℕ → ℤ
battery_demand capacity charge discharge spread stored last step =
    around (share (capacity -ℤ stored) capacity last) charge discharge spread step

-- the demand in watts of a kind in a state at a step of a basis with this last step; a manual device has none of its
-- own, since its bid is an array
unfoldable pub strategy_demand : Kind → ℤ → ℕ → ℕ → ℤ
strategy_demand (Freezer low high power warm cool) temperature last step = freezer_demand low high power temperature last step
strategy_demand (HeatPump low high power loss gain) temperature last step = heat_pump_demand low high power temperature last step
strategy_demand (Cogeneration low high power loss gain) temperature last step =
    cogeneration_demand low high power temperature last step
strategy_demand (Battery capacity charge discharge spread) stored last step =
    battery_demand capacity charge discharge spread stored last step
strategy_demand Solar output last step = neg_ℤ output
strategy_demand Load power last step = power
strategy_demand Objective target last step = neg_ℤ target
strategy_demand Manual number last step = pos 0

-- the array of a number, counted from 0, and zeros if no array has the number
abbrev pub numbered_array : List (List ℤ) → ℤ → ℕ → List ℤ
numbered_array arrays (pos number) steps = slice_index_or arrays number (zeros steps)
numbered_array arrays (negsuc number) steps = zeros steps

-- the bid of a kind in a state: its array if it is manual, else its demand at each step
unfoldable pub bid_of : Kind → ℤ → List (List ℤ) → ℕ → List ℤ
bid_of Manual number arrays steps = numbered_array arrays number steps
bid_of kind state arrays steps = by_step steps (strategy_demand kind state (steps - 1))

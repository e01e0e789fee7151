-- All devices of a market, each with its parent; they share the real time.
use Rattle.std.specs.Prelude.{ℕ, ◌+◌, Bool, true, false, if◌then◌else◌, nat_eq, List, [], ◌∷◌, ℤ, pos}
use Rattle.pm_silence.specs.Clocks.{Clocks}
use Rattle.pm_silence.specs.Leases.{LeaseState, LeaseEvent, Passes, state_after_event, is_holding, time_passed}

-- What happens: real time passes for all, or something else at one device and its parent. When the parent of many starts anew, that is
-- one event for each of them
pub data MarketEvent : Type 0 where
  PassesForAll : (ticks : ℕ) → MarketEvent
  HappensAt : (device : ℕ) → LeaseEvent → MarketEvent

-- whether time passes by an event; at one device alone it does not
abbrev pub takes_no_time : LeaseEvent → Bool
takes_no_time (Passes d) = false
takes_no_time _ = true

abbrev pub at_one : (ℕ → Clocks) → ℕ → (ℕ → LeaseState) → ℕ → LeaseEvent → ℕ → LeaseState
at_one clocks grace worlds device e d =
    if nat_eq d device then (if takes_no_time e then state_after_event (clocks d) grace (worlds d) e else worlds d) else worlds d

abbrev pub market_step : (ℕ → Clocks) → ℕ → (ℕ → LeaseState) → MarketEvent → ℕ → LeaseState
market_step clocks grace worlds (PassesForAll ticks) d = time_passed (worlds d) ticks
market_step clocks grace worlds (HappensAt device e) d = at_one clocks grace worlds device e d

abbrev pub leases_after : (ℕ → Clocks) → ℕ → (ℕ → LeaseState) → List MarketEvent → ℕ → LeaseState
leases_after clocks grace worlds [] d = worlds d
leases_after clocks grace worlds (e ∷ es) d = leases_after clocks grace (market_step clocks grace worlds e) es d

-- what a device takes that was told so many watts: those as long as its control holds, and else its fallback, nothing
abbrev pub watts_taken : Clocks → ℕ → LeaseState → ℤ → ℤ
watts_taken clocks validity w told = if is_holding clocks validity w then told else pos 0

-- the sum over these devices
abbrev pub sum_of_devices : (ℕ → ℕ) → List ℕ → ℕ
sum_of_devices f [] = 0
sum_of_devices f (d ∷ ds) = f d + sum_of_devices f ds

-- what a device takes that was told to take so many watts
abbrev pub watts_consumed : (ℕ → Clocks) → ℕ → (ℕ → LeaseState) → (ℕ → ℕ) → ℕ → ℕ
watts_consumed clocks validity worlds told d = if is_holding (clocks d) validity (worlds d) then told d else 0

-- what its parent counts of it
abbrev pub watts_counted : (ℕ → LeaseState) → (ℕ → ℕ) → ℕ → ℕ
watts_counted worlds told d = if (worlds d).place.counts then told d else 0

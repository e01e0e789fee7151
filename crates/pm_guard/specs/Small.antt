-- Small feeders that are worked out: two devices that change places, below one guard and below two.
use Rattle.std.specs.Prelude.{ℕ, pos, List, [], ◌∷◌}
use Rattle.pm_guard.specs.Choosing.{within_watts}
use Rattle.pm_guard.specs.Feeders.{Device, Feeder, FeederEvent, PlacedEvent}
use Rattle.pm_guard.specs.Feeders.NodeOf.{DeviceNode, RelayNode}
use Rattle.pm_guard.specs.Feeders.FeederEvent.{Tells, Takes, Promises, Hears, Limited, Restarts}
use Rattle.pm_guard.specs.declared.band.Band.{Band}

-- one power, in watts, under an index
abbrev pub one_power : ℕ → ℕ → Band
one_power index watts = record { index = index; low = pos watts; high = pos watts }

-- a device that was told only this power, and takes it
abbrev pub takes_first : Band → Device
takes_first band = record { told = band ∷ []; promised = 0; power = band.low }

-- within so many watts both ways; the first device takes 50 watts, and the second none
abbrev pub two_devices : ℕ → Feeder 0
two_devices watts = record {
  guard = record { limits = within_watts watts; held = (one_power 1 50 ∷ []) ∷ (one_power 1 0 ∷ []) ∷ [] };
  nodes = takes_first (one_power 1 50) ∷ takes_first (one_power 1 0) ∷ [];
}

-- at the guard on top
abbrev pub on_top : FeederEvent → PlacedEvent
on_top event = record { path = []; event = event }

-- at the guard of the first child
abbrev pub below_first : FeederEvent → PlacedEvent
below_first event = record { path = 0 ∷ []; event = event }

-- The second is to take 50 watts by index 2 and the first none. The second is tried first, the first is told and goes by it, and the
-- second is tried again.
abbrev pub first_part : List PlacedEvent
first_part =
    on_top (Tells 1 (one_power 2 50)) ∷ on_top (Takes 1 (pos 50)) ∷ on_top (Tells 0 (one_power 2 0)) ∷ on_top (Takes 0 (pos 0))
    ∷ on_top (Tells 1 (one_power 2 50)) ∷ on_top (Takes 1 (pos 50)) ∷ []

-- then the first promises, its promise comes twice, and the second is told and goes by it
abbrev pub second_part : List PlacedEvent
second_part =
    on_top (Promises 0 2) ∷ on_top (Hears 0 2) ∷ on_top (Hears 0 2) ∷ on_top (Tells 1 (one_power 2 50)) ∷ on_top (Takes 1 (pos 50)) ∷ []

-- the first may be back at its old power before it promised, as after a restart, and not after
abbrev pub goes_back : List PlacedEvent
goes_back = on_top (Takes 0 (pos 50)) ∷ []

-- all that the second device was told and promised is heard late and out of order: nothing below index 3, and then nothing below index 2
abbrev pub late_promises : List PlacedEvent
late_promises =
    on_top (Tells 1 (one_power 2 50)) ∷ on_top (Promises 1 2) ∷ on_top (Tells 1 (one_power 3 20)) ∷ on_top (Takes 1 (pos 20))
    ∷ on_top (Promises 1 3) ∷ on_top (Hears 1 3) ∷ on_top (Hears 1 2) ∷ []

-- the guard starts anew with what it stored, and then with too little, which it may not
abbrev pub starts_anew : List (List Band) → List PlacedEvent
starts_anew held = on_top (Restarts held) ∷ []

-- A relay that was told -60 to 60 watts, with the two devices below it. Beside it is a device that takes none. The feeder has room for
-- 100 watts.
abbrev pub relay_and_device : Feeder 1
relay_and_device = record {
  guard = record {
    limits = within_watts 100;
    held = (record { index = 1; low = (within_watts 60).floor; high = pos 60 } ∷ []) ∷ (one_power 1 0 ∷ []) ∷ [];
  };
  nodes =
      RelayNode (record {
        told = record { index = 1; low = (within_watts 60).floor; high = pos 60 } ∷ [];
        promised = 0;
        feeder = two_devices 50;
      })
      ∷ DeviceNode (takes_first (one_power 1 0)) ∷ [];
}

-- the device beside the relay is to take 80 watts: not while the relay may let 60 flow
abbrev pub asks_for_80 : List PlacedEvent
asks_for_80 = on_top (Tells 1 (one_power 2 80)) ∷ on_top (Takes 1 (pos 80)) ∷ []

-- The relay is told to keep to 10 watts. Its guard goes by that, and lets its first device fall to 10. Once the device promised that, and the
-- relay too, the device beside it may be told.
abbrev pub gives_way : List PlacedEvent
gives_way =
    on_top (Tells 0 (record { index = 2; low = pos 0; high = pos 10 }))
    ∷ below_first (Limited (record { floor = pos 0; ceiling = pos 10 }))
    ∷ below_first (Tells 0 (one_power 2 10)) ∷ below_first (Takes 0 (pos 10)) ∷ below_first (Promises 0 2) ∷ below_first (Hears 0 2)
    ∷ on_top (Promises 0 2) ∷ on_top (Hears 0 2) ∷ []

-- a relay that is told nothing of it does not let its limits grow beyond what it may take
abbrev pub takes_wider_limits : List PlacedEvent
takes_wider_limits = below_first (Limited (within_watts 90)) ∷ []

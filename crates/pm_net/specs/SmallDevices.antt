-- The control of a device below a relay, to be worked out.
use Rattle.std.specs.Prelude.{ℕ, true, false, List, [], ◌∷◌, negsuc}
use Rattle.pm_market.specs.Lists.{Lists}
use Rattle.pm_net.specs.Events.{Event, Bids, TakesBid, Sends, Clears}
use Rattle.pm_net.specs.TreeAuction.{tree_pricing}
use Rattle.pm_net.specs.SmallRuns.{small_demand}
use Rattle.pm_net.specs.Agents.{Setpoint}
use Rattle.pm_net.specs.Devices.{Devices, start_devices, devices_after}

-- Node 1 is a relay, node 2 a device below it. It offers under number 2, is let go by its relay under 3, or not; offers under 4,
-- leaves under 6, and offers under 8.
abbrev pub one_device : Lists
one_device = record {
  parents = 0 ∷ 1 ∷ [];
  leaves = false ∷ true ∷ [];
  members = [] ∷ (false ∷ true ∷ false ∷ true ∷ true ∷ false ∷ false ∷ true ∷ []) ∷ [];
  ends = (0 ∷ 8 ∷ []) ∷ [];
}

abbrev pub devices_of : List Event → Devices
devices_of events =
    devices_after one_device (tree_pricing one_device (small_demand one_device)) (start_devices (tree_pricing one_device
    (small_demand one_device))) events

-- the setpoints that its control was given after these events
abbrev pub setpoints_given : List Event → List Setpoint
setpoints_given events = (devices_of events).setpoints 2

-- the device bids, the relay takes the bid and sends its own, which the auctioneer takes and clears; then the rest
abbrev pub offered_once : List Event → List Event
offered_once rest = Bids 2 ∷ Bids 2 ∷ TakesBid 2 1 ∷ Sends 1 ∷ TakesBid 1 0 ∷ Clears ∷ rest

-- the relay lets the device go, sends, and the auctioneer clears; then the rest
abbrev pub let_go_by_relay : List Event → List Event
let_go_by_relay rest = Bids 2 ∷ TakesBid 2 2 ∷ Sends 1 ∷ TakesBid 1 1 ∷ Clears ∷ rest

-- to deliver 3 watts at the second step, for this bid by this clearing
abbrev pub deliver_3 : ℕ → ℕ → Setpoint
deliver_3 number' index' = record { number = number'; index = index'; step = 1; power = negsuc 2 }

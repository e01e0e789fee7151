-- A worked world that settles: the worked system, as lives.
use Rattle.std.specs.Prelude.{◌≡◌, ℕ, List, [], ◌∷◌}
use Rattle.pm_basis.specs.Prices.{BasisValue}
use Rattle.std.specs.Prelude.{negsuc, pos}
use Rattle.pm_wire.specs.declared.frame.Frame.TheVariants as market_frame
use Rattle.pm_frames.specs.declared.parent.ParentFrame.TheVariants.{Price}
use Rattle.pm_frames.specs.declared.relay.RelayFrame.TheVariants as relay_frame
use Rattle.pm_frames.specs.declared.root.RootFrame.TheVariants as root_frame
use Rattle.pm_frames.specs.declared.device.DeviceFrame.TheVariants as device_frame
use Rattle.pm_frames.specs.declared.form.OfferForm.TheVariants.{Array}
use Rattle.pm_system.specs.Worked.{small_tree, small_places, small_device_demand, small_pricing, told_2, told_3}
use Rattle.pm_lives.specs.Lives.{World, LifeStep, RelayUp, Relay, RootUp, Root, DeviceUp, Device, Live, IsNewWorld}
use Rattle.pm_lives.specs.Settled.{IsSettledWorld, IsTakenWorld}

-- three steps, of prices 0, 10 and 20
abbrev pub small_basis : BasisValue
small_basis = record { min = pos 0; max = pos 20; steps = 3 }

abbrev pub bid_to_relay : ℕ → ℕ → ℕ → ℕ → LifeStep
bid_to_relay place number d n = Relay 1 (relay_frame.Child (market_frame.Bid place number (small_device_demand d number))) n

-- The price of the first clearing is not handed out; of the relay's second bid the Resume alone is handled, and its next process hears both
-- devices again.
abbrev pub small_steps : List LifeStep
small_steps = RootUp ∷ RelayUp 1 0 ∷ DeviceUp 2 0 ∷ DeviceUp 3 0 ∷ Device 2 (device_frame.Offer Array (small_device_demand 2 2)) 2
    ∷ Device 3 (device_frame.Offer Array (small_device_demand 3 2)) 2 ∷ bid_to_relay 1 2 2 0 ∷ bid_to_relay 2 2 3 0 ∷ Relay 1 relay_frame.Send 2
    ∷ Root (root_frame.Market (market_frame.Bid 1 1 (pos 5 ∷ pos 5 ∷ negsuc 2 ∷ []))) 0 ∷ Root (root_frame.Market market_frame.Clear) 1
    ∷ Device 2 (device_frame.Offer Array (small_device_demand 2 4)) 2 ∷ bid_to_relay 1 4 2 0 ∷ Relay 1 relay_frame.Send 1 ∷ RelayUp 1 0
    ∷ bid_to_relay 2 2 3 0 ∷ bid_to_relay 1 4 2 1 ∷ Root (root_frame.Market (market_frame.Bid 1 2 (negsuc 0 ∷ negsuc 0 ∷ negsuc 0 ∷ []))) 0
    ∷ Root (root_frame.Market market_frame.Clear) 2 ∷ Relay 1 (relay_frame.Parent (Price 1 2 2 0 small_basis)) 3
    ∷ Device 2 (device_frame.Parent (Price 1 4 2 1 small_basis)) 2 ∷ Device 3 (device_frame.Parent (Price 2 2 2 1 small_basis)) 2 ∷ []

pub record LivesSettle : Type 0 where
  pub world : World
  pub none : IsNewWorld small_pricing small_places world
  pub new : World
  pub live : Live small_tree small_pricing small_places world small_steps new
  pub settled : IsSettledWorld small_tree small_places new
  pub taken : IsTakenWorld small_tree small_places new
  pub setpoints_2 : new.seen.setpoints 2 ≡ told_2 ∷ []
  pub setpoints_3 : new.seen.setpoints 3 ≡ told_3 ∷ []

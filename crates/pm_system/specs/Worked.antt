-- A worked system that settles: a root, a relay with limits below it, and two devices below the relay.
use Rattle.std.specs.Prelude.{◌≡◌, ◌==◌, ℕ, if◌then◌else◌, true, false, ℤ, pos, negsuc, List, [], ◌∷◌}
use Rattle.pm_base.specs.declared.limits.Limits.{Limits}
use Rattle.pm_bid.specs.Bids.{zeros}
use Rattle.pm_bid.specs.Taken.{IsWithinLimits}
use Rattle.pm_market.specs.Lists.{Lists, is_member}
use Rattle.pm_market.specs.Offers.{sum_on}
use Rattle.pm_net.specs.Pricing.{Pricing}
use Rattle.pm_net.specs.Messages.{price_message}
use Rattle.pm_net.specs.Agents.{Setpoint}
use Rattle.pm_net_plan.specs.Places.{Numbering, places_in}
use Rattle.pm_system.specs.System.{System}
use Rattle.pm_system.specs.Calls.{NodeCall, Bids, TakesBid, Sends, Clears, TakesPrice, Restarts, StopsBidding, Resends, SystemRuns}
use Rattle.pm_system.specs.Given.{IsTreeMarket, IsStarted, placed_pricing}
use Rattle.pm_system.specs.Settled.{numbers_counted, IsSettledSystem, IsCurrentSystem}
use Rattle.pm_system.specs.Flow.{TakeWhatWasTold}

-- node 1 is the relay, nodes 2 and 3 are the devices; device 2 offers under 2 and 4, device 3 under 2; the odd numbers are the relay's
abbrev pub small_tree : Lists
small_tree = record {
  parents = 0 ∷ 1 ∷ 1 ∷ [];
  leaves = false ∷ true ∷ true ∷ [];
  members = [] ∷ (false ∷ true ∷ false ∷ true ∷ []) ∷ (false ∷ true ∷ []) ∷ [];
  ends = (0 ∷ 4 ∷ 2 ∷ []) ∷ [];
}

abbrev pub small_places : Numbering
small_places = places_in small_tree

-- device 2 asks for 6, 4, -2 watts at the three steps, and then for 6, -2, -3; device 3 for 3, 1, -1
abbrev pub small_offer : ℕ → ℕ → List ℤ
small_offer d n =
    if d == 3 then (pos 3 ∷ pos 1 ∷ negsuc 0 ∷ [])
    else (if n == 2 then (pos 6 ∷ pos 4 ∷ negsuc 1 ∷ []) else (pos 6 ∷ negsuc 1 ∷ negsuc 2 ∷ []))

abbrev pub small_device_demand : ℕ → ℕ → List ℤ
small_device_demand d n = if is_member small_tree d n then small_offer d n else zeros 3

-- the relay holds its part between -3 and 7 watts, under all numbers: no device gives it other limits
abbrev pub small_limits : Limits
small_limits = record { floor = negsuc 2; ceiling = pos 7 }

abbrev pub no_giver : ℕ → ℕ
no_giver c = 0

abbrev pub small_pricing : Pricing
small_pricing = placed_pricing small_tree 3 small_device_demand (λ c n. small_limits) no_giver

-- Both devices offer; the relay learns and sends, the root learns and clears. The price is lost. Device 2 offers anew, and the relay
-- learns it and makes its next bid; its process is killed before the bid is sent, and comes back. It hears both devices again, so it
-- has its record again, and sends the bid. The root clears again, and the price goes down; that of device 3 comes twice.
abbrev pub small_calls : List NodeCall
small_calls =
    Bids 2 ∷ Bids 3 ∷ TakesBid 2 0 ∷ TakesBid 3 0 ∷ Sends 1 ∷ TakesBid 1 0 ∷ Clears ∷ Bids 2 ∷ TakesBid 2 1 ∷ StopsBidding 1 ∷ Restarts 1 0
    ∷ TakesBid 3 0 ∷ TakesBid 2 1 ∷ Resends 1 ∷ TakesBid 1 1 ∷ Clears ∷ TakesPrice 1 1 ∷ TakesPrice 2 0 ∷ TakesPrice 3 0 ∷
    TakesPrice 3 0 ∷ []

-- In the end the newest clearing, the second, is over the newest offers. The sum of the devices is 9, -1, -3 - 1. The root clears at
-- step 0 of what the relay announces, which is -1 at each step; at step 0 the devices would take more than 7 watts, so the relay
-- passes step 1 down.
abbrev pub told_2 : Setpoint
told_2 = record { number = 4; index = 2; step = 1; power = negsuc 1 }

abbrev pub told_3 : Setpoint
told_3 = record { number = 2; index = 2; step = 1; power = pos 1 }

-- the calls run, from nodes that come up for the first time, into a system that is settled, so it is current; and what it says
pub record Settles : Type 0 where
  pub market : IsTreeMarket small_tree small_pricing small_places
  pub start : System
  pub started : IsStarted small_tree small_pricing start
  pub sys : System
  pub runs : SystemRuns small_tree small_pricing small_places start small_calls sys
  pub settled : IsSettledSystem small_tree small_places sys
  pub current : IsCurrentSystem small_tree small_pricing small_places small_calls sys
  -- the prices that the relay was sent, and that the devices were sent; the first of the relay was lost
  pub prices_1 : sys.prices_sent 1 ≡ price_message 1 1 2 ∷ price_message 2 2 0 ∷ []
  pub prices_2 : sys.prices_sent 2 ≡ price_message 4 2 1 ∷ []
  pub prices_3 : sys.prices_sent 3 ≡ price_message 2 2 1 ∷ []
  -- what the controls were told
  pub setpoints_2 : sys.setpoints 2 ≡ told_2 ∷ []
  pub setpoints_3 : sys.setpoints 3 ≡ told_3 ∷ []
  -- the steps over the bids that count
  pub step_1 : small_pricing.local (numbers_counted small_tree small_places sys) 1 ≡ 0
  pub step_2 : small_pricing.local (numbers_counted small_tree small_places sys) 2 ≡ 1
  pub step_3 : small_pricing.local (numbers_counted small_tree small_places sys) 3 ≡ 1
  -- -1 watt flows through the relay if both devices take what they were told, and that is within its limits
  pub flow : (power : ℕ → ℤ) → TakeWhatWasTold small_tree small_pricing (numbers_counted small_tree small_places sys) sys 1 power →
      (sum_on small_tree 1 power ≡ negsuc 0) × IsWithinLimits small_limits (sum_on small_tree 1 power)

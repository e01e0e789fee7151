-- A worked system with two relays on the way: a root, a relay, a relay with limits below it, and a device below each relay.
use Rattle.std.specs.Prelude.{◌≡◌, ◌==◌, ℕ, if◌then◌else◌, true, false, ℤ, pos, negsuc, List, [], ◌∷◌}
use Rattle.pm_base.specs.declared.limits.Limits.{Limits}
use Rattle.pm_bid.specs.Bids.{zeros}
use Rattle.pm_bid.specs.Taken.{IsWithinLimits}
use Rattle.pm_market.specs.Lists.{Lists, is_member}
use Rattle.pm_market.specs.Offers.{sum_on}
use Rattle.pm_net.specs.Pricing.{Pricing}
use Rattle.pm_net.specs.Messages.{bid_message, price_message}
use Rattle.pm_net.specs.Agents.{Setpoint}
use Rattle.pm_net_plan.specs.Places.{Numbering, places_in}
use Rattle.pm_system.specs.System.{System}
use Rattle.pm_system.specs.Calls.{NodeCall, Bids, TakesBid, Sends, Clears, TakesPrice, SystemRuns}
use Rattle.pm_system.specs.Given.{IsTreeMarket, IsStarted, placed_pricing}
use Rattle.pm_system.specs.Worked.{no_giver}
use Rattle.pm_system.specs.Settled.{numbers_counted, IsSettledSystem, IsTakenSystem, IsCurrentSystem}
use Rattle.pm_system.specs.Flow.{TakeWhatWasTold}

-- nodes 1 and 2 are relays, 2 below 1; device 3 is below relay 2, and device 4 below relay 1; each device offers once, under 2
abbrev pub deep_tree : Lists
deep_tree = record {
  parents = 0 ∷ 1 ∷ 2 ∷ 1 ∷ [];
  leaves = false ∷ false ∷ true ∷ true ∷ [];
  members = [] ∷ [] ∷ (false ∷ true ∷ []) ∷ (false ∷ true ∷ []) ∷ [];
  ends = (0 ∷ 0 ∷ 2 ∷ 2 ∷ []) ∷ [];
}

abbrev pub deep_places : Numbering
deep_places = places_in deep_tree

-- at the three steps device 3 asks for 8, 6, 2 watts, and device 4 for 1, -2, -6
abbrev pub deep_offer : ℕ → List ℤ
deep_offer d = if d == 3 then (pos 8 ∷ pos 6 ∷ pos 2 ∷ []) else (pos 1 ∷ negsuc 1 ∷ negsuc 5 ∷ [])

abbrev pub deep_demand : ℕ → ℕ → List ℤ
deep_demand d n = if is_member deep_tree d n then deep_offer d else zeros 3

-- relay 2 holds its part between -5 and 5 watts, and relay 1 its part between -9 and 9
abbrev pub deep_limits : ℕ → Limits
deep_limits c = if c == 2 then record { floor = negsuc 4; ceiling = pos 5 } else record { floor = negsuc 8; ceiling = pos 9 }

abbrev pub deep_pricing : Pricing
deep_pricing = placed_pricing deep_tree 3 deep_demand (λ c n. deep_limits c) no_giver

-- Both devices offer. Relay 2 learns and sends, relay 1 learns both and sends, the root learns and clears. The price goes down: relay 1
-- passes it to relay 2 and to device 4, and relay 2 passes it to device 3.
abbrev pub deep_calls : List NodeCall
deep_calls =
    Bids 3 ∷ Bids 4 ∷ TakesBid 3 0 ∷ Sends 2 ∷ TakesBid 2 0 ∷ TakesBid 4 0 ∷ Sends 1 ∷ TakesBid 1 0 ∷ Clears
    ∷ TakesPrice 1 0 ∷ TakesPrice 2 0 ∷ TakesPrice 3 0 ∷ TakesPrice 4 0 ∷ []

-- Device 3 asks for more than 5 watts at steps 0 and 1, so relay 2 settles at step 2, and announces 2 watts at each step. Relay 1 announces
-- 3, 0, -4. The root clears at step 1, at 0 watts. Device 4 goes by step 1, and device 3 by step 2.
abbrev pub deep_told_3 : Setpoint
deep_told_3 = record { number = 2; index = 1; step = 2; power = pos 2 }

abbrev pub deep_told_4 : Setpoint
deep_told_4 = record { number = 2; index = 1; step = 1; power = negsuc 1 }

-- The calls run, from nodes that come up for the first time, into a system that is settled, and that is taken by its numbers and indices
-- alone; so it is current; and what it says.
pub record DeepSettles : Type 0 where
  pub market : IsTreeMarket deep_tree deep_pricing deep_places
  pub start : System
  pub started : IsStarted deep_tree deep_pricing start
  pub sys : System
  pub runs : SystemRuns deep_tree deep_pricing deep_places start deep_calls sys
  pub settled : IsSettledSystem deep_tree deep_places sys
  pub taken : IsTakenSystem deep_tree deep_places sys
  pub current : IsCurrentSystem deep_tree deep_pricing deep_places deep_calls sys
  -- the bids that the relays sent, and the prices that each node was sent
  pub bids_2 : sys.bids_sent 2 ≡ bid_message 1 false (pos 2 ∷ pos 2 ∷ pos 2 ∷ []) ∷ []
  pub bids_1 : sys.bids_sent 1 ≡ bid_message 1 false (pos 3 ∷ pos 0 ∷ negsuc 3 ∷ []) ∷ []
  pub prices_1 : sys.prices_sent 1 ≡ price_message 1 1 1 ∷ []
  pub prices_2 : sys.prices_sent 2 ≡ price_message 1 1 1 ∷ []
  pub prices_3 : sys.prices_sent 3 ≡ price_message 2 1 2 ∷ []
  pub prices_4 : sys.prices_sent 4 ≡ price_message 2 1 1 ∷ []
  -- what the controls were told
  pub setpoints_3 : sys.setpoints 3 ≡ deep_told_3 ∷ []
  pub setpoints_4 : sys.setpoints 4 ≡ deep_told_4 ∷ []
  -- 2 watts flow through relay 2 if device 3 takes what it was told, and that is within its limits; and none through relay 1
  pub flow_2 : (power : ℕ → ℤ) → TakeWhatWasTold deep_tree deep_pricing (numbers_counted deep_tree deep_places sys) sys 2 power →
      (sum_on deep_tree 2 power ≡ pos 2) × IsWithinLimits (deep_limits 2) (sum_on deep_tree 2 power)
  pub flow_1 : (power : ℕ → ℤ) → TakeWhatWasTold deep_tree deep_pricing (numbers_counted deep_tree deep_places sys) sys 1 power →
      (sum_on deep_tree 1 power ≡ pos 0) × IsWithinLimits (deep_limits 1) (sum_on deep_tree 1 power)

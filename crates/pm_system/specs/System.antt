-- A whole market across machines: the values of its nodes, and all messages that were ever sent between them.
use Rattle.std.specs.Prelude.{ℕ, ◌==◌, nat_le, if◌then◌else◌, List, [], ◌∷◌, ◌++◌, slice_index_or}
use Rattle.pm_market.specs.Lists.{Lists, parent}
use Rattle.pm_market.specs.State.{update}
use Rattle.pm_net.specs.Pricing.{Pricing}
use Rattle.pm_net.specs.Messages.{BidMessage, PriceMessage, price_message, nothing_heard, no_price}
use Rattle.pm_net.specs.Agents.{Setpoint, DeviceAgent}
use Rattle.pm_net_plan.specs.Places.{Numbering}
use Rattle.pm_relay.specs.Relays.{RelayValue}
use Rattle.pm_relay.specs.Roots.{RootValue}

-- The root; each relay; the agent of each device; every setpoint that the control of each device was ever given, the newest
-- last; and the channels: every bid that each node ever sent up, and every price that was ever sent down to it.
pub record System : Type 0 where
  pub root : RootValue
  pub relays : ℕ → RelayValue
  pub agents : ℕ → DeviceAgent
  pub setpoints : ℕ → List Setpoint
  pub bids_sent : ℕ → List BidMessage
  pub prices_sent : ℕ → List PriceMessage

-- the message in a place of a channel
abbrev pub bid_in_channel : Pricing → System → ℕ → ℕ → BidMessage
bid_in_channel p sys x k = slice_index_or (sys.bids_sent x) k (nothing_heard p)

abbrev pub price_in_channel : System → ℕ → ℕ → PriceMessage
price_in_channel sys x k = slice_index_or (sys.prices_sent x) k no_price

-- ---- one node changes

abbrev pub with_root : System → RootValue → System
with_root sys root' = record sys { root = root' }

abbrev pub with_relay : System → ℕ → RelayValue → System
with_relay sys c relay = record sys { relays = update sys.relays c relay }

abbrev pub with_agent : System → ℕ → DeviceAgent → System
with_agent sys d agent = record sys { agents = update sys.agents d agent }

-- its control is given setpoints
abbrev pub with_setpoints : System → ℕ → List Setpoint → System
with_setpoints sys d given = record sys { setpoints = update sys.setpoints d (sys.setpoints d ++ given) }

-- ---- messages are sent

-- x sends a bid up
abbrev pub with_bid_sent : System → ℕ → BidMessage → System
with_bid_sent sys x bid = record sys { bids_sent = update sys.bids_sent x (sys.bids_sent x ++ bid ∷ []) }

-- y sends each of its children what is for the child's place
abbrev pub with_prices_sent : Lists → Numbering → System → ℕ → (ℕ → List PriceMessage) → System
with_prices_sent lists numbering sys y prices = record sys {
  prices_sent = λ x. if parent lists x == y then (sys.prices_sent x ++ prices (numbering.place x))
      else sys.prices_sent x;
}

-- z alone is sent prices
abbrev pub with_prices_told : System → ℕ → List PriceMessage → System
with_prices_told sys z prices = record sys { prices_sent = update sys.prices_sent z (sys.prices_sent z ++ prices) }

-- ---- what is stored

-- What a node may have stored of the prices that it took: of one that was ever sent to it and has no greater index than the one
-- which it holds, in place k, the number and the index; past the last place, of none; else those which it holds.
abbrev pub price_stored : System → ℕ → ℕ → (held_number held_index : ℕ) → PriceMessage
price_stored sys x k held_number held_index =
    if nat_le (price_in_channel sys x k).index held_index then price_in_channel sys x k
    else price_message held_number held_index 0

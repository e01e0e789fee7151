-- What holds of a system after any run.
use Rattle.std.specs.Prelude.{◌≡◌, ◌⊎◌, ℕ, ◌+◌, ◌<◌, ◌≤◌, false, List, length, slice_index_or}
use Rattle.std.specs.List.{All, Contains}
use Rattle.pm_market.specs.Lists.{Lists, is_member, IsNode, IsLeaf, IsConcentrator}
use Rattle.pm_market.specs.State.{clearings, cleared_cut, part}
use Rattle.pm_market.specs.Moves.{after, LegalJournal}
use Rattle.pm_market.specs.declared.moves.Move.{Move}
use Rattle.pm_net.specs.Pricing.{Pricing}
use Rattle.pm_net.specs.Messages.{BidMessage, nothing_heard}
use Rattle.pm_net.specs.Running.{device_bid}
use Rattle.pm_net.specs.Events.{Event, RunsOn}
use Rattle.pm_net.specs.Agrees.{IsItsPrice}
use Rattle.pm_net.specs.Devices.{Devices, start_devices, devices_after, IsRight}
use Rattle.pm_net_plan.specs.Places.{Numbering}
use Rattle.pm_relay_net.specs.RelayIs.{RelayIs}
use Rattle.pm_relay_net.specs.RootIs.{RootIs}
use Rattle.pm_system.specs.Flow.{FlowsAsCleared}
use Rattle.pm_system.specs.System.{System, price_in_channel}
use Rattle.pm_system.specs.Calls.{NodeCall, StaysUp}

-- ---- it is what a network has

-- a bid is in a channel
pub record IsIn (p : Pricing) (channel : List BidMessage) (bid : BidMessage) : Type 0 where
  pub place : ℕ
  pub inside : place < length channel
  pub is : slice_index_or channel place (nothing_heard p) ≡ bid

-- The network has of a device each number that it made or its parent may give, each in its channel. Of these were lost: the
-- parent's that nobody gave, and those before whose sending the device stopped.
pub record ChannelsAre (lists : Lists) (p : Pricing) (counts : ℕ → ℕ) (bids sent_bids : ℕ → List BidMessage) : Type 0 where
  pub sent : (x k : ℕ) → IsNode lists x → k < length (sent_bids x) → IsIn p (bids x) (slice_index_or (sent_bids x) k (nothing_heard p))
  pub made : (d n : ℕ) → IsLeaf lists d → 1 ≤ n → n ≤ counts d → IsIn p (bids d) (device_bid lists p d n)

-- the parent of a device gave the number after the one that the device gave last
pub record IsExpired (lists : Lists) (d count number : ℕ) (sent_bids : List BidMessage) : Type 0 where
  pub next : count ≡ number + 1
  pub absent : is_member lists d (number + 1) ≡ false
  pub bid : BidMessage
  pub sent : Contains sent_bids bid
  pub its : bid.number ≡ number + 1

pub record SystemIs (lists : Lists) (p : Pricing) (numbering : Numbering) (devices : Devices) (sys : System) : Type 0 where
  pub root : RootIs p numbering devices.net sys.root
  pub relays : (c : ℕ) → IsConcentrator lists c → RelayIs p numbering devices.net c (sys.relays c)
  pub agents : (d : ℕ) → IsLeaf lists d → devices.agents d ≡ sys.agents d
  pub setpoints : (d : ℕ) → IsLeaf lists d → devices.setpoints d ≡ sys.setpoints d
  pub channels : ChannelsAre lists p devices.net.counts devices.net.bids_sent sys.bids_sent
  -- the last change of a device is that of the number which its agent gave last, or it expired since
  pub counted : (d : ℕ) → IsLeaf lists d → (devices.net.counts d ≡ (sys.agents d).number)
      ⊎ IsExpired lists d (devices.net.counts d) (sys.agents d).number (sys.bids_sent d)
  pub prices_sent : (x : ℕ) → IsNode lists x → devices.net.prices_sent x ≡ sys.prices_sent x

-- after these calls the system is what a network with devices has after some events, which restart no node that stayed up
pub record RunsTheMarket (lists : Lists) (p : Pricing) (numbering : Numbering) (calls : List NodeCall) (sys : System) : Type 0 where
  pub events : List Event
  pub is : SystemIs lists p numbering (devices_after lists p (start_devices p) events) sys
  pub restarts : (x : ℕ) → StaysUp x calls → RunsOn x events

-- ---- what follows

-- All prices that were ever sent are of one legal journal: each is due to its receiver, and names the receiver's own number and
-- local step in the cut of its clearing. Every setpoint that was ever given is right in it. A later clearing has no older number.
pub record KeepsTheLaw (lists : Lists) (p : Pricing) (sys : System) : Type 0 where
  pub journal : List Move
  pub legal : LegalJournal lists journal
  pub prices : (x k : ℕ) → IsNode lists x → k < length (sys.prices_sent x) → IsItsPrice lists p (after lists journal) x (price_in_channel sys x k)
  pub cleared : (x k : ℕ) → IsNode lists x → k < length (sys.prices_sent x) →
      (1 ≤ (price_in_channel sys x k).index) × ((price_in_channel sys x k).index ≤ clearings (after lists journal))
  pub setpoints : (d : ℕ) → IsLeaf lists d → All (IsRight lists p (after lists journal) d) (sys.setpoints d)
  -- the limits by which a relay settles for a price are those of the bid of its own that the price names
  pub limits : (c k : ℕ) → IsConcentrator lists c → k < length (sys.prices_sent c) →
      p.limits c (cleared_cut (after lists journal) (price_in_channel sys c k).index)
      ≡ p.limits c (part lists (after lists journal) c (price_in_channel sys c k).number)
  -- the setpoints of one clearing add up to what was announced for it
  pub flows : FlowsAsCleared lists p sys (after lists journal)
  pub later : (i j d : ℕ) → i ≤ j → j ≤ clearings (after lists journal) → IsLeaf lists d →
      cleared_cut (after lists journal) i d ≤ cleared_cut (after lists journal) j d

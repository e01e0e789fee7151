-- A system in which everything was taken and nothing new can be sent, and what is current then.
use Rattle.std.specs.Prelude.{◌≡◌, ◌⊎◌, ℕ, ◌<◌, ◌≤◌, false, true, pos, if◌then◌else◌, ◌==◌, List, length, slice_index_or}
use Rattle.std.specs.List.{All, Contains}
use Rattle.pm_bid.specs.declared.head.BidHead.{BidHead}
use Rattle.pm_cache.specs.Cache.{child_head, kept_number}
use Rattle.pm_market.specs.Lists.{Lists, parent, is_leaf, is_member, IsNode, IsLeaf, IsConcentrator}
use Rattle.pm_net.specs.Pricing.{Pricing}
use Rattle.pm_net.specs.Messages.{BidMessage, price_message}
use Rattle.pm_net.specs.Agents.{Setpoint}
use Rattle.pm_net_plan.specs.Places.{Numbering}
use Rattle.pm_relay.specs.Numbers.{child_number}
use Rattle.pm_relay.specs.Relays.{RelayValue, newest_bid_number, NotSent}
use Rattle.pm_relay.specs.Roots.{RootValue, newest_index, NotCleared}
use Rattle.pm_relay.specs.declared.fault.SendFault.{SendFault}
use Rattle.pm_relay.specs.declared.fault.SendFault.TheVariants as send_fault
use Rattle.pm_relay.specs.declared.fault.RootFault.{RootFault}
use Rattle.pm_relay.specs.declared.fault.RootFault.TheVariants as root_fault
use Rattle.pm_system.specs.System.{System, price_in_channel}
use Rattle.pm_system.specs.Calls.{NodeCall, StaysUp}

-- ---- what a node holds

-- the number of its newest bid, sent or not
abbrev pub number_made : Lists → System → ℕ → ℕ
number_made lists sys x = if is_leaf lists x then (sys.agents x).number else newest_bid_number (sys.relays x)

-- the number that its parent holds of it
abbrev pub number_held : Lists → Numbering → System → ℕ → ℕ
number_held lists numbering sys x =
    if parent lists x == 0 then kept_number sys.root.auction.cache (numbering.place x)
    else kept_number (sys.relays (parent lists x)).gathered.cache (numbering.place x)

-- the index of the price that it took last
abbrev pub index_of_held : Lists → System → ℕ → ℕ
index_of_held lists sys x = if is_leaf lists x then (sys.agents x).index else (sys.relays x).index

-- ---- settled

-- a relay refuses to send, and a root to clear, but not for want of numbers
abbrev pub HasNothingToSend : RelayValue → Type 0
HasNothingToSend r = (fault : SendFault) × NotSent r fault × (fault ≡ send_fault.OutOfNumbers → ⊥)

abbrev pub HasNothingToClear : RootValue → Type 0
HasNothingToClear r = (fault : RootFault) × NotCleared r fault × (fault ≡ root_fault.OutOfNumbers → ⊥)

-- Each parent holds the newest bid of its child, or the newest that it gave for it. Each node took the newest price that was sent to it. The root
-- sent the price of its newest clearing to each child that is not gone. No relay has anything to send, nor the root anything to clear.
pub record IsSettledSystem (lists : Lists) (numbering : Numbering) (sys : System) : Type 0 where
  pub bids : (x : ℕ) → IsNode lists x → number_made lists sys x ≤ number_held lists numbering sys x
  pub expired : (d : ℕ) → IsLeaf lists d → All (λ (bid : BidMessage). bid.number ≤ number_held lists numbering sys d) (sys.bids_sent d)
  pub prices : (x k : ℕ) → IsNode lists x → k < length (sys.prices_sent x) → (price_in_channel sys x k).index ≤ index_of_held lists sys x
  pub told : (x : ℕ) → IsNode lists x → parent lists x ≡ 0 → (child_head sys.root.auction.cache (numbering.place x)).gone ≡ false →
      (k : ℕ) × (k < length (sys.prices_sent x)) × ((price_in_channel sys x k).index ≡ newest_index sys.root)
  pub relays : (c : ℕ) → IsConcentrator lists c → HasNothingToSend (sys.relays c)
  pub root : HasNothingToClear sys.root

-- ---- reached by the newest clearing

-- the head that its parent holds of x
abbrev pub head_held : Lists → Numbering → System → ℕ → BidHead
head_held lists numbering sys x =
    if parent lists x == 0 then child_head sys.root.auction.cache (numbering.place x)
    else child_head (sys.relays (parent lists x)).gathered.cache (numbering.place x)

-- its parent counts x: a device that is not gone there, or a relay of which it holds a bid
abbrev pub CountsAtParent : Lists → Numbering → System → ℕ → Type 0
CountsAtParent lists numbering sys x =
    (IsLeaf lists x × ((head_held lists numbering sys x).gone ≡ false))
    ⊎ (IsConcentrator lists x × (1 ≤ (head_held lists numbering sys x).number))

-- The same of bids; but of prices, whatever was sent, only that each node which its parent counts took one of the newest clearing.
pub record IsReachedSystem (lists : Lists) (numbering : Numbering) (sys : System) : Type 0 where
  pub bids : (x : ℕ) → IsNode lists x → number_made lists sys x ≤ number_held lists numbering sys x
  pub expired : (d : ℕ) → IsLeaf lists d → All (λ (bid : BidMessage). bid.number ≤ number_held lists numbering sys d) (sys.bids_sent d)
  pub reached : (x : ℕ) → IsNode lists x → CountsAtParent lists numbering sys x → newest_index sys.root ≤ index_of_held lists sys x
  pub relays : (c : ℕ) → IsConcentrator lists c → HasNothingToSend (sys.relays c)
  pub root : HasNothingToClear sys.root

-- ---- told the newest clearing

-- Of prices only that each device which its parent counts took one of the newest clearing. Nothing is asked of those that relays
-- hold, who may have come back with older ones; but no relay, nor the root, has heard anything that is not in its newest bid or
-- clearing.
pub record IsToldSystem (lists : Lists) (numbering : Numbering) (sys : System) : Type 0 where
  pub bids : (x : ℕ) → IsNode lists x → number_made lists sys x ≤ number_held lists numbering sys x
  pub expired : (d : ℕ) → IsLeaf lists d → All (λ (bid : BidMessage). bid.number ≤ number_held lists numbering sys d) (sys.bids_sent d)
  pub devices : (d : ℕ) → IsLeaf lists d → (head_held lists numbering sys d).gone ≡ false → newest_index sys.root ≤ index_of_held lists sys d
  pub relays : (c : ℕ) → IsConcentrator lists c → NotSent (sys.relays c) send_fault.NotChanged
  pub root : NotCleared sys.root root_fault.NotChanged

-- ---- taken, by numbers and indices alone

-- the number of x in its parent's newest bid, or in the newest clearing
abbrev pub number_taken : Lists → Numbering → System → ℕ → ℕ
number_taken lists numbering sys x =
    if parent lists x == 0 then child_number sys.root.recorded (numbering.place x)
    else child_number (sys.relays (parent lists x)).recorded (numbering.place x)

-- Each parent holds the newest bid of its child, or the newest that it gave for it, and its own newest bid or clearing is over that
-- number; and each device which its parent counts took a price of the newest clearing. Whatever else relays hold, and whatever was sent.
pub record IsTakenSystem (lists : Lists) (numbering : Numbering) (sys : System) : Type 0 where
  pub bids : (x : ℕ) → IsNode lists x → number_made lists sys x ≤ number_held lists numbering sys x
  pub expired : (d : ℕ) → IsLeaf lists d → All (λ (bid : BidMessage). bid.number ≤ number_held lists numbering sys d) (sys.bids_sent d)
  pub taken : (x : ℕ) → IsNode lists x → number_held lists numbering sys x ≤ number_taken lists numbering sys x
  pub devices : (d : ℕ) → IsLeaf lists d → (head_held lists numbering sys d).gone ≡ false → newest_index sys.root ≤ index_of_held lists sys d

-- ---- current

-- The number under which each device is counted by its parent: that of the newest bid which it made, or a later one under which
-- its parent let it go.
abbrev pub numbers_counted : Lists → Numbering → System → ℕ → ℕ
numbers_counted lists numbering sys d = number_held lists numbering sys d

-- the price of the newest clearing came to d, under its newest number and with its local step over all bids that count; it is the
-- one that d took last
pub record HoldsNewestBid (p : Pricing) (sys : System) (counted : ℕ → ℕ) (d : ℕ) : Type 0 where
  pub place : ℕ
  pub inside : place < length (sys.prices_sent d)
  pub price : price_in_channel sys d place ≡ price_message (sys.agents d).number (newest_index sys.root) (p.local counted d)
  pub taken : (sys.agents d).index ≡ newest_index sys.root

-- the control of d was told what its newest bid asks for at that step
pub record WasTold (p : Pricing) (sys : System) (counted : ℕ → ℕ) (d : ℕ) : Type 0 where
  pub setpoint : Setpoint
  pub given : Contains (sys.setpoints d) setpoint
  pub number : setpoint.number ≡ (sys.agents d).number
  pub step : setpoint.step ≡ p.local counted d
  pub power : setpoint.power ≡ slice_index_or (p.demand d (sys.agents d).number) (p.local counted d) (pos 0)

-- So it is for each member that counts; the control of one that did not restart was told. A device that its parent let go, and
-- that made no bid since, is no such member: what its control was told last may be old.
pub record IsCurrentSystem (lists : Lists) (p : Pricing) (numbering : Numbering) (calls : List NodeCall) (sys : System) : Type 0 where
  pub counted : (d : ℕ) → IsLeaf lists d → is_member lists d (numbers_counted lists numbering sys d) ≡ true →
      numbers_counted lists numbering sys d ≡ (sys.agents d).number
  pub not_gone : (d : ℕ) → IsLeaf lists d → is_member lists d (numbers_counted lists numbering sys d) ≡ true →
      (head_held lists numbering sys d).gone ≡ false
  pub held : (d : ℕ) → IsLeaf lists d → is_member lists d (numbers_counted lists numbering sys d) ≡ true →
      HoldsNewestBid p sys (numbers_counted lists numbering sys) d
  pub told : (d : ℕ) → IsLeaf lists d → is_member lists d (numbers_counted lists numbering sys d) ≡ true → StaysUp d calls →
      WasTold p sys (numbers_counted lists numbering sys) d

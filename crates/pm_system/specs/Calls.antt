-- The calls of the nodes of a system: each is one call of one node, on any message that was ever sent to it, and does what the
-- contract of the code says. A call that is refused changes nothing, and is left out.
use Rattle.std.specs.Prelude.{◌≡◌, ◌⊎◌, ℕ, ◌+◌, ◌<◌, ◌≤◌, true, false, List, [], ◌∷◌, length, ℤ, Option, Some, None}
use Rattle.pm_base.specs.declared.limits.Limits.{Limits}
use Rattle.pm_bid.specs.Bids.{zeros}
use Rattle.pm_market.specs.Lists.{Lists, parent, is_member, changes, IsNode, IsLeaf, IsConcentrator}
use Rattle.pm_market.specs.State.{no_changes}
use Rattle.pm_concentrator.specs.Concentrators.{own_demand}
use Rattle.pm_net.specs.Pricing.{Pricing}
use Rattle.pm_net.specs.Messages.{BidMessage, bid_message}
use Rattle.pm_net.specs.Agents.{DeviceAgent, may_offer, after_offer, after_leaving, setpoints_for, after_price}
use Rattle.pm_net_plan.specs.Places.{Numbering}
use Rattle.pm_control.specs.Control.{newest_demand, agent_stored}
use Rattle.pm_relay.specs.Relays as relays
use Rattle.pm_relay.specs.Relays.{RelayValue, newest_bid_number, RelayComesBack, with_child_bid, with_new_limits, limits_of_number, LooksForRecord, BidSent}
use Rattle.pm_relay.specs.Roots.{RootValue, newest_index, RootComesBack, with_root_bid, LooksForClearing, RootCleared}
use Rattle.pm_relay.specs.declared.outcome.PriceOutcome.{PriceOutcome}
use Rattle.pm_relay_net.specs.RelayIs.{LimitsPassBy, GivesLimits, told_demand, update_of, prices_down}
use Rattle.pm_relay_net.specs.RootIs.{root_prices}
use Rattle.pm_system.specs.System.{System, bid_in_channel, price_in_channel, with_root, with_relay, with_agent, with_setpoints}
use Rattle.pm_system.specs.System.{with_bid_sent, with_prices_sent, with_prices_told}
use Rattle.pm_system.specs.System.{price_stored}

pub data NodeCall : Type 0 where
  -- the control of device d offers or leaves, and the bid is sent
  Bids : ℕ → NodeCall
  -- the parent of device d gives one of its own numbers, n, for d being gone: the bid is there as if d had sent it. The call
  -- `expire` of the parent is this with a TakesBid of that bid
  Expires : ℕ → ℕ → NodeCall
  -- the parent of x learns the message in place k of what x ever sent, or its parent gave for it
  TakesBid : ℕ → ℕ → NodeCall
  -- relay c sends its next bid
  Sends : ℕ → NodeCall
  -- the root clears, and sends the prices
  Clears : NodeCall
  -- x, a relay or a device, takes the message in place k of what was ever sent to it
  TakesPrice : ℕ → ℕ → NodeCall
  -- y, any node, comes back after a restart with what it stored, the price in place k
  Restarts : ℕ → ℕ → NodeCall
  -- x, a relay or a device, makes its next bid and stores it, and stops before the bid is sent
  StopsBidding : ℕ → NodeCall
  -- x, a relay or a device, sends its newest bid again
  Resends : ℕ → NodeCall
  -- the root makes its next clearing and stores it, and stops before a price is sent
  StopsClearing : NodeCall
  -- the root sends the price of its newest clearing to z, again or for the first time
  TellsOne : ℕ → NodeCall

-- ---- a device

-- its control offers the demand that is given for its next number, the second after its last, or leaves, as is given for it
pub record Offers (lists : Lists) (p : Pricing) (d : ℕ) (old new : DeviceAgent) (bid : BidMessage) : Type 0 where
  pub member : is_member lists d (old.number + 2) ≡ true
  pub may : may_offer old ≡ true
  pub offered : new ≡ after_offer old (p.demand d (old.number + 2))
  pub bid_is : bid ≡ bid_message (old.number + 2) false (p.demand d (old.number + 2))

pub record Leaves (lists : Lists) (p : Pricing) (d : ℕ) (old new : DeviceAgent) (bid : BidMessage) : Type 0 where
  pub absent : is_member lists d (old.number + 2) ≡ false
  pub left : new ≡ after_leaving old
  pub bid_is : bid ≡ bid_message (old.number + 2) true (zeros p.steps)

pub record DeviceChanges (lists : Lists) (p : Pricing) (sys : System) (d : ℕ) (agent : DeviceAgent) (bid : BidMessage) : Type 0 where
  pub leaf : IsLeaf lists d
  pub has_next : (sys.agents d).number + 2 ≤ changes lists d
  pub change : Offers lists p d (sys.agents d) agent bid ⊎ Leaves lists p d (sys.agents d) agent bid

pub record DeviceBids (lists : Lists) (p : Pricing) (sys : System) (d : ℕ) (new : System) : Type 0 where
  pub agent : DeviceAgent
  pub bid : BidMessage
  pub made : DeviceChanges lists p sys d agent bid
  pub new_is : new ≡ with_bid_sent (with_agent sys d agent) d bid

pub record DeviceStops (lists : Lists) (p : Pricing) (sys : System) (d : ℕ) (new : System) : Type 0 where
  pub agent : DeviceAgent
  pub bid : BidMessage
  pub made : DeviceChanges lists p sys d agent bid
  pub new_is : new ≡ with_agent sys d agent

-- the bid of its newest number: the offer that is kept under it, or that it is gone
abbrev pub bid_kept : Pricing → ℕ → Option (List ℤ) → BidMessage
bid_kept p number None = bid_message number true (zeros p.steps)
bid_kept p number (Some demand) = bid_message number false demand

pub record DeviceResends (lists : Lists) (p : Pricing) (sys : System) (d : ℕ) (new : System) : Type 0 where
  pub leaf : IsLeaf lists d
  pub some : 1 ≤ (sys.agents d).number
  pub new_is : new ≡ with_bid_sent sys d (bid_kept p (sys.agents d).number (newest_demand (sys.agents d)))

-- n is odd, so it is no number of a bid that d makes; it is none that lies more than one above the last of these
pub record DeviceExpires (lists : Lists) (p : Pricing) (sys : System) (d n : ℕ) (new : System) : Type 0 where
  pub leaf : IsLeaf lists d
  pub half : ℕ
  pub odd : n ≡ half + half + 1
  pub within : n ≤ (sys.agents d).number + 1
  pub absent : is_member lists d n ≡ false
  pub has_next : n ≤ changes lists d
  pub new_is : new ≡ with_bid_sent sys d (bid_message n true (zeros p.steps))

pub record DeviceTakesPrice (lists : Lists) (sys : System) (d k : ℕ) (new : System) : Type 0 where
  pub leaf : IsLeaf lists d
  pub inside : k < length (sys.prices_sent d)
  pub new_is : new ≡ with_setpoints (with_agent sys d (after_price (sys.agents d) (price_in_channel sys d k))) d
      (setpoints_for (sys.agents d) (price_in_channel sys d k))

-- it comes back with its number and its newest offer, and with an index that it once stored
pub record DeviceRestarts (lists : Lists) (sys : System) (d k : ℕ) (new : System) : Type 0 where
  pub leaf : IsLeaf lists d
  pub new_is : new ≡ with_agent sys d (agent_stored (sys.agents d).number (newest_demand (sys.agents d))
      (price_stored sys d k (sys.agents d).answered (sys.agents d).index).index)

-- ---- a relay

-- it learns a child's bid, by whose numbers its limits do not go
pub record LearnsChildBid (lists : Lists) (p : Pricing) (numbering : Numbering) (sys : System) (x : ℕ) (bid : BidMessage) (relay : RelayValue) : Type 0 where
  pub passes : LimitsPassBy p (parent lists x) x
  pub learnt : LooksForRecord (with_child_bid (sys.relays (parent lists x)) (numbering.place x) bid.number (told_demand bid)) relay

-- it learns limits: those that are given under the number of the bid
pub record LearnsLimits (lists : Lists) (p : Pricing) (numbering : Numbering) (sys : System) (x : ℕ) (bid : BidMessage) (relay : RelayValue) : Type 0 where
  pub limits : Limits
  pub gone : bid.gone ≡ true
  pub gives : GivesLimits p (parent lists x) x bid.number limits
  pub learnt : LooksForRecord (with_new_limits (sys.relays (parent lists x)) (numbering.place x) bid.number limits) relay

pub record RelayTakesBid (lists : Lists) (p : Pricing) (numbering : Numbering) (sys : System) (x k : ℕ) (new : System) : Type 0 where
  pub node : IsNode lists x
  pub below : parent lists x ≡ 0 → ⊥
  pub inside : k < length (sys.bids_sent x)
  pub relay : RelayValue
  pub learnt : LearnsChildBid lists p numbering sys x (bid_in_channel p sys x k) relay
      ⊎ LearnsLimits lists p numbering sys x (bid_in_channel p sys x k) relay
  pub new_is : new ≡ with_relay sys (parent lists x) relay

pub record RelaySends (lists : Lists) (sys : System) (c : ℕ) (new : System) : Type 0 where
  pub conc : IsConcentrator lists c
  pub relay : RelayValue
  pub number : ℕ
  pub sent : BidSent (sys.relays c) relay number
  pub new_is : new ≡ with_bid_sent (with_relay sys c relay) c (bid_message number false (own_demand relay.gathered))

pub record RelayStops (lists : Lists) (sys : System) (c : ℕ) (new : System) : Type 0 where
  pub conc : IsConcentrator lists c
  pub relay : RelayValue
  pub number : ℕ
  pub sent : BidSent (sys.relays c) relay number
  pub new_is : new ≡ with_relay sys c relay

-- while it has its newest record it may send its newest bid again
pub record RelayResends (lists : Lists) (sys : System) (c : ℕ) (new : System) : Type 0 where
  pub conc : IsConcentrator lists c
  pub has : 1 ≤ (sys.relays c).gathered.window.last
  pub new_is : new ≡ with_bid_sent sys c (bid_message (newest_bid_number (sys.relays c)) false (own_demand (sys.relays c).gathered))

pub record RelayTakesPrice (lists : Lists) (numbering : Numbering) (sys : System) (c k : ℕ) (new : System) : Type 0 where
  pub conc : IsConcentrator lists c
  pub inside : k < length (sys.prices_sent c)
  pub relay : RelayValue
  pub outcome : PriceOutcome
  pub taken : relays.TakesPrice (sys.relays c) relay (update_of (price_in_channel sys c k)) outcome
  pub new_is : new ≡ with_prices_sent lists numbering (with_relay sys c relay) c (prices_down relay (update_of (price_in_channel sys c k)) outcome)

-- it comes back with its last number, its children's numbers and the limits of that bid, and with the number and the index of a price that it once stored
pub record RelayRestarts (lists : Lists) (p : Pricing) (sys : System) (c k : ℕ) (new : System) : Type 0 where
  pub conc : IsConcentrator lists c
  pub limits : Limits
  pub limited : p.limits c no_changes ≡ Some limits
  pub under : Limits
  pub under_is : Some under ≡ limits_of_number (sys.relays c) (newest_bid_number (sys.relays c))
  pub relay : RelayValue
  pub back : RelayComesBack p.steps limits (newest_bid_number (sys.relays c))
      (price_stored sys c k (sys.relays c).answered (sys.relays c).index).number
      (price_stored sys c k (sys.relays c).answered (sys.relays c).index).index (sys.relays c).recorded under relay
  pub new_is : new ≡ with_relay sys c relay

-- ---- the root

pub record RootTakesBid (lists : Lists) (p : Pricing) (numbering : Numbering) (sys : System) (x k : ℕ) (new : System) : Type 0 where
  pub node : IsNode lists x
  pub below : parent lists x ≡ 0
  pub inside : k < length (sys.bids_sent x)
  pub root : RootValue
  pub learnt : LooksForClearing (with_root_bid sys.root (numbering.place x) (bid_in_channel p sys x k).number (told_demand (bid_in_channel p sys x k))) root
  pub new_is : new ≡ with_root sys root

pub record RootClears (lists : Lists) (numbering : Numbering) (sys : System) (new : System) : Type 0 where
  pub root : RootValue
  pub index : ℕ
  pub step : ℕ
  pub cleared : RootCleared sys.root root index step
  pub new_is : new ≡ with_prices_sent lists numbering (with_root sys root) 0 (root_prices root)

pub record RootStops (sys : System) (new : System) : Type 0 where
  pub root : RootValue
  pub index : ℕ
  pub step : ℕ
  pub cleared : RootCleared sys.root root index step
  pub new_is : new ≡ with_root sys root

-- while it has its newest clearing, and learnt nothing since, it may tell a child again
pub record RootTellsOne (lists : Lists) (numbering : Numbering) (sys : System) (z : ℕ) (new : System) : Type 0 where
  pub node : IsNode lists z
  pub below : parent lists z ≡ 0
  pub has : 0 < sys.root.auction.index
  pub same : sys.root.auction.changed ≡ false
  pub new_is : new ≡ with_prices_told sys z (root_prices sys.root (numbering.place z))

-- it comes back with its newest index and its children's numbers
pub record RootRestarts (p : Pricing) (sys : System) (new : System) : Type 0 where
  pub root : RootValue
  pub back : RootComesBack p.steps (newest_index sys.root) sys.root.recorded root
  pub new_is : new ≡ with_root sys root

-- ---- runs

-- what a call makes of a system
abbrev pub Does : Lists → Pricing → Numbering → System → NodeCall → System → Type 0
Does lists p numbering sys (Bids d) new = DeviceBids lists p sys d new
Does lists p numbering sys (Expires d n) new = DeviceExpires lists p sys d n new
Does lists p numbering sys (TakesBid x k) new = RelayTakesBid lists p numbering sys x k new ⊎ RootTakesBid lists p numbering sys x k new
Does lists p numbering sys (Sends c) new = RelaySends lists sys c new
Does lists p numbering sys Clears new = RootClears lists numbering sys new
Does lists p numbering sys (TakesPrice x k) new = RelayTakesPrice lists numbering sys x k new ⊎ DeviceTakesPrice lists sys x k new
Does lists p numbering sys (Restarts y k) new =
    ((y ≡ 0) × RootRestarts p sys new) ⊎ (RelayRestarts lists p sys y k new ⊎ DeviceRestarts lists sys y k new)
Does lists p numbering sys (StopsBidding x) new = RelayStops lists sys x new ⊎ DeviceStops lists p sys x new
Does lists p numbering sys (Resends x) new = RelayResends lists sys x new ⊎ DeviceResends lists p sys x new
Does lists p numbering sys StopsClearing new = RootStops sys new
Does lists p numbering sys (TellsOne z) new = RootTellsOne lists numbering sys z new

-- one call after the other
abbrev pub SystemRuns : Lists → Pricing → Numbering → System → List NodeCall → System → Type 0
SystemRuns lists p numbering sys [] new = sys ≡ new
SystemRuns lists p numbering sys (call ∷ calls) new = (mid : System) × Does lists p numbering sys call mid × SystemRuns lists p numbering mid calls new

-- no call of these is a restart of x
abbrev pub IsNoRestart : ℕ → NodeCall → Type 0
IsNoRestart x (Restarts y k) = y ≡ x → ⊥
IsNoRestart x call = Unit {0}

abbrev pub StaysUp : ℕ → List NodeCall → Type 0
StaysUp x [] = Unit {0}
StaysUp x (call ∷ calls) = IsNoRestart x call × StaysUp x calls

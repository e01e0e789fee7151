-- The call `expire` of a relay or a root, and the call `take_old` of a device's agent: each is two calls of the system.
use Rattle.std.specs.Prelude.{◌≡◌, ℕ, ◌+◌, ◌≤◌, ◌^◌, nat_lt, true, false, ℤ, List, [], ◌∷◌, Some, None}
use Rattle.pm_bid.specs.Bids.{zeros}
use Rattle.pm_market.specs.Lists.{Lists, parent, is_member, changes, IsLeaf}
use Rattle.pm_net.specs.Pricing.{Pricing}
use Rattle.pm_net.specs.Messages.{bid_message}
use Rattle.pm_net_plan.specs.Places.{Numbering}
use Rattle.pm_control.specs.Control.{newest_demand, after_old}
use Rattle.pm_relay.specs.Numbers.{known_number, parents_number}
use Rattle.pm_relay.specs.Relays.{RelayValue, with_child_bid, LooksForRecord}
use Rattle.pm_relay.specs.Roots.{RootValue, with_root_bid, LooksForClearing}
use Rattle.pm_relay_net.specs.RelayIs.{LimitsPassBy}
use Rattle.pm_system.specs.System.{System, with_root, with_relay, with_agent, with_bid_sent}
use Rattle.pm_system.specs.Calls.{NodeCall, Bids, Expires, StopsBidding, TakesBid, SystemRuns}

-- the number under which the parent of a device lets it go is one under which it is no member
pub record MayExpire (lists : Lists) (d number : ℕ) : Type 0 where
  pub leaf : IsLeaf lists d
  pub absent : is_member lists d number ≡ false
  pub has_next : number ≤ changes lists d

-- the relay above device d lets it go, as the contract of the call says; it is none that gives the relay its limits
pub record RelayExpires (lists : Lists) (p : Pricing) (numbering : Numbering) (sys : System) (d : ℕ) (new : System) : Type 0 where
  pub below : parent lists d ≡ 0 → ⊥
  pub number : ℕ
  pub number_is : number ≡ parents_number (known_number (sys.relays (parent lists d)).recorded (sys.relays (parent lists d)).gathered.cache.heads
      (numbering.place d))
  pub may : MayExpire lists d number
  pub passes : LimitsPassBy p (parent lists d) d
  pub relay : RelayValue
  pub gone : LooksForRecord (with_child_bid (sys.relays (parent lists d)) (numbering.place d) number None) relay
  pub new_is : new ≡ with_relay (with_bid_sent sys d (bid_message number true (zeros p.steps))) (parent lists d) relay

-- the root lets it go
pub record RootExpires (lists : Lists) (p : Pricing) (numbering : Numbering) (sys : System) (d : ℕ) (new : System) : Type 0 where
  pub below : parent lists d ≡ 0
  pub number : ℕ
  pub number_is : number ≡ parents_number (known_number sys.root.recorded sys.root.auction.cache.heads (numbering.place d))
  pub may : MayExpire lists d number
  pub root : RootValue
  pub gone : LooksForClearing (with_root_bid sys.root (numbering.place d) number None) root
  pub new_is : new ≡ with_root (with_bid_sent sys d (bid_message number true (zeros p.steps))) root

-- it is what two calls do: a number is given for the device, and its parent takes the bid of that number
pub record AreTwoCalls (lists : Lists) (p : Pricing) (numbering : Numbering) (sys : System) (d number : ℕ) (new : System) : Type 0 where
  pub place : ℕ
  pub runs : SystemRuns lists p numbering sys (Expires d number ∷ TakesBid d place ∷ []) new

-- ---- a device that was let go

-- Device d hears from its parent that this number is kept of it, above the last that its agent gave: it was let go. So its agent
-- leaves, of which nothing is sent, and makes its newest offer anew under the number behind that, as the contract of its call
-- `take_old` says; that offer is sent. Under the two numbers the lists have so.
pub record DeviceOffersAnew (lists : Lists) (p : Pricing) (sys : System) (d kept : ℕ) (new : System) : Type 0 where
  pub leaf : IsLeaf lists d
  pub newer : nat_lt (sys.agents d).number kept ≡ true
  pub room : nat_lt ((sys.agents d).number + 7) (2 ^ 32) ≡ true
  pub demand : List ℤ
  pub newest : newest_demand (sys.agents d) ≡ Some demand
  pub absent : is_member lists d ((sys.agents d).number + 2) ≡ false
  pub member : is_member lists d ((sys.agents d).number + 2 + 2) ≡ true
  pub has_next : (sys.agents d).number + 2 + 2 ≤ changes lists d
  pub demand_is : demand ≡ p.demand d ((sys.agents d).number + 2 + 2)
  pub new_is : new ≡ with_bid_sent (with_agent sys d (after_old (sys.agents d) kept)) d (bid_message ((sys.agents d).number + 2 + 2) false demand)

-- it stops before its leaving is sent, and it offers
abbrev pub offers_anew : ℕ → List NodeCall
offers_anew d = StopsBidding d ∷ Bids d ∷ []

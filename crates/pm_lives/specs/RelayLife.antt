-- The service of a relay over a stream, and the relay of a system for which it stands.
use Rattle.std.specs.Prelude.{◌≡◌, ◌⊎◌, ℕ, ◌+◌, ◌-◌, ◌<◌, ◌≤◌, ℤ, List, length, replicate, Option, Some, None}
use Rattle.std.specs.Prelude.{IfSome, ⊤, true}
use Rattle.pm_base.specs.Cuts.{Cut}
use Rattle.pm_base.specs.Limits.{most_nodes}
use Rattle.pm_base.specs.declared.limits.Limits.{Limits}
use Rattle.pm_market.specs.Lists.{Lists, parent, IsNode}
use Rattle.pm_session.specs.declared.price.PriceUpdate.{PriceUpdate}
use Rattle.pm_net.specs.Pricing.{Pricing}
use Rattle.pm_net.specs.Messages.{price_message}
use Rattle.pm_net_plan.specs.Places.{Numbering}
use Rattle.pm_wire.specs.declared.frame.Frame.TheVariants.{Hello, Bid, Gone, Clear}
use Rattle.pm_relay.specs.Relays.{newest_bid_number}
use Rattle.pm_relay.specs.Numbers.{child_number, known_number, parents_number}
use Rattle.pm_relay_net.specs.RelayIs.{LimitsPassBy, GivesLimits, told_demand, update_of}
use Rattle.pm_frames.specs.Stored.{StoredRelay}
use Rattle.pm_frames.specs.declared.parent.ParentFrame.TheVariants.{Price, Old}
use Rattle.pm_frames.specs.declared.relay.RelayFrame.{RelayFrame}
use Rattle.pm_frames.specs.declared.relay.RelayFrame.TheVariants.{Child, Parent, Send, Expire, Bound, Resume}
use Rattle.pm_frames.specs.declared.relay.RelayFrame.TheVariants as given
use Rattle.pm_frames.specs.Terms.{giver_number}
use Rattle.pm_services.specs.Receipts.{sender_place}
use Rattle.pm_services.specs.RelayWrites.{WaitingRelay}
use Rattle.pm_services.specs.RelaySetups.{RelaySetup}
use Rattle.pm_system.specs.System.{System, bid_in_channel, price_in_channel}
use Rattle.pm_system.specs.Expiry.{MayExpire}
use Rattle.pm_lives.specs.Outputs.{PriceWasSent}
use Rattle.pm_services.specs.Outputs.{Output}
use Rattle.pm_lives.specs.Moves.{FollowsByCalls}

-- ---- what a relay's value is of

-- a number and an index are those of a price that was sent to c, or of none
abbrev pub IsOfPrice : System → ℕ → (answered index : ℕ) → Type 0
IsOfPrice sys c answered index =
    ((answered ≡ 0) × (index ≡ 0))
    ⊎ ((k : ℕ) × (k < length (sys.prices_sent c)) × ((price_in_channel sys c k).number ≡ answered) × ((price_in_channel sys c k).index ≡ index))

-- a price that waits was sent to c
abbrev pub UpdateWasSent : System → ℕ → PriceUpdate → Type 0
UpdateWasSent sys c price = (k : ℕ) × (k < length (sys.prices_sent c)) × (update_of (price_in_channel sys c k) ≡ price)

-- a relay, with the price that waits, stands for node c of the system
pub record RelayStands (sys : System) (c : ℕ) (relay : WaitingRelay) : Type 0 where
  pub relay_is : relay.relay ≡ sys.relays c
  pub waiting : IfSome relay.waiting (UpdateWasSent sys c)
  pub held : IsOfPrice sys c relay.relay.answered relay.relay.index

-- ---- what it may come back with

-- the numbers of a node's children, each in its child's place, as a cut
abbrev pub numbers_in_places : Numbering → List ℕ → Cut
numbers_in_places numbering numbers x = child_number numbers (numbering.place x)

-- What was stored is of the newest bid of node c, with the limits that this bid was made under, which are those that the numbers
-- in it give; and of a price that it took, or of one before.
pub record IsRelayKept (p : Pricing) (numbering : Numbering) (sys : System) (c : ℕ) (stored : StoredRelay) : Type 0 where
  pub last : stored.last ≡ newest_bid_number (sys.relays c)
  pub numbers : stored.numbers ≡ (sys.relays c).recorded
  pub limits : p.limits c (numbers_in_places numbering stored.numbers) ≡ Some stored.limits
  pub price : IsOfPrice sys c stored.answered stored.index
  pub older : stored.index ≤ (sys.relays c).index

-- what is stored before anything is, of a relay that comes up with the limits of its arguments
abbrev pub no_relay_stored : RelaySetup → StoredRelay
no_relay_stored own = record {
  last = 0;
  answered = 0;
  index = 0;
  basis = own.basis;
  first = own.terms.limits;
  giver = giver_number own.terms.giver;
  limits = own.terms.limits;
  numbers = replicate most_nodes 0;
}

-- ---- what it may be given

-- A Bid or Gone from a sender is a message of the child with that number. To a relay it is of none that gives the relay its
-- limits.
pub record CarriesBid (lists : Lists) (p : Pricing) (numbering : Numbering) (sys : System) (y sender number : ℕ) (demand : Option (List ℤ)) : Type 0 where
  pub x : ℕ
  pub node : IsNode lists x
  pub up : parent lists x ≡ y
  pub sender_is : sender ≡ numbering.place x + 1
  pub place : ℕ
  pub inside : place < length (sys.bids_sent x)
  pub number_is : number ≡ (bid_in_channel p sys x place).number
  pub demand_is : demand ≡ told_demand (bid_in_channel p sys x place)
  pub passes : (y ≡ 0 → ⊥) → LimitsPassBy p y x

-- Limits are those that the child with this number at the relay gives under the number of a message of its own. It asks for nothing:
-- by that message it is no member.
pub record CarriesLimits (lists : Lists) (p : Pricing) (numbering : Numbering) (sys : System) (c sender number : ℕ) (limits : Limits) : Type 0 where
  pub x : ℕ
  pub node : IsNode lists x
  pub up : parent lists x ≡ c
  pub sender_is : sender ≡ numbering.place x + 1
  pub place : ℕ
  pub inside : place < length (sys.bids_sent x)
  pub number_is : number ≡ (bid_in_channel p sys x place).number
  pub gone : (bid_in_channel p sys x place).gone ≡ true
  pub gives : GivesLimits p c x number limits

-- The child that is let go is a device, which under that number is no member; to a relay it is none that gives the relay its
-- limits.
pub record CarriesExpire (lists : Lists) (p : Pricing) (numbering : Numbering) (y sender number : ℕ) : Type 0 where
  pub x : ℕ
  pub up : parent lists x ≡ y
  pub node : IsNode lists x
  pub sender_is : sender ≡ numbering.place x + 1
  pub may : MayExpire lists x number
  pub passes : (y ≡ 0 → ⊥) → LimitsPassBy p y x

-- Each message in a frame to relay c was sent: a Bid or Gone by the child that it names, limits by the child in the place of the
-- arguments, a price, of the relay's basis, to c. Of Send, Old and Bound nothing is asked. Hello and Resume stand at the start of a
-- life alone.
abbrev pub RelayMayRead : Lists → Pricing → Numbering → RelaySetup → System → ℕ → RelayFrame → Type 0
RelayMayRead lists p numbering setup sys c (Child (Hello basis)) = ⊤
RelayMayRead lists p numbering setup sys c (Child (Bid sender number demand)) = CarriesBid lists p numbering sys c sender number (Some demand)
RelayMayRead lists p numbering setup sys c (Child (Gone sender number)) = CarriesBid lists p numbering sys c sender number None
RelayMayRead lists p numbering setup sys c (Child Clear) = ⊤
RelayMayRead lists p numbering setup sys c (Parent (Price own number index step basis)) =
    (basis ≡ setup.basis) × PriceWasSent sys c (price_message number index step)
RelayMayRead lists p numbering setup sys c (Parent (Old own kept)) = ⊤
RelayMayRead lists p numbering setup sys c Send = ⊤
RelayMayRead lists p numbering setup sys c (Expire sender) = CarriesExpire lists p numbering c sender
    (parents_number (known_number (sys.relays c).recorded (sys.relays c).gathered.cache.heads (sender - 1)))
RelayMayRead lists p numbering setup sys c (given.Limits number limits) =
    (giver : ℕ) → setup.terms.giver ≡ Some giver → CarriesLimits lists p numbering sys c giver number limits
RelayMayRead lists p numbering setup sys c (Bound sender bound) = ⊤
RelayMayRead lists p numbering setup sys c (Resume stored) = ⊥

-- by an Expire the child with that number is let go, under the parent's next number for it; by no other frame is any
abbrev pub LetsGo : Lists → Numbering → (y sender number d n : ℕ) → Type 0
LetsGo lists numbering y sender number d n = (parent lists d ≡ y) × (sender ≡ numbering.place d + 1) × (n ≡ number)

-- a child's number is not that of the place in which a relay is given its limits
abbrev pub IsNoGiver : Option ℕ → ℕ → Type 0
IsNoGiver giver' sender = (giver : ℕ) → giver' ≡ Some giver → sender_place sender ≡ sender_place giver → ⊥

-- no Bid, Gone or Expire is of that place: such a one is a bad frame
abbrev pub PassesGiver : Option ℕ → RelayFrame → Type 0
PassesGiver giver (Child (Hello basis)) = ⊤
PassesGiver giver (Child (Bid sender number demand)) = IsNoGiver giver sender
PassesGiver giver (Child (Gone sender number)) = IsNoGiver giver sender
PassesGiver giver (Child Clear) = ⊤
PassesGiver giver (Parent frame) = ⊤
PassesGiver giver Send = ⊤
PassesGiver giver (Expire sender) = IsNoGiver giver sender
PassesGiver giver (given.Limits number limits) = ⊤
PassesGiver giver (Bound sender bound) = ⊤
PassesGiver giver (Resume stored) = ⊤

-- the number under which a relay lets a child go
abbrev pub relay_number : System → ℕ → ℕ → ℕ
relay_number sys c sender = parents_number (known_number (sys.relays c).recorded (sys.relays c).gathered.cache.heads (sender - 1))

abbrev pub RelayLets : Lists → Numbering → System → ℕ → RelayFrame → ℕ → ℕ → Type 0
RelayLets lists numbering sys c (Expire sender) d n = LetsGo lists numbering c sender (relay_number sys c sender) d n
RelayLets lists numbering sys c frame d n = ⊥

-- ---- what an answer is

-- what a relay makes of a frame: some calls of c, after which its service stands for it again
abbrev pub RelayFollows : Lists → Pricing → Numbering → (ℕ → ℕ → Type 0) → System → (c : ℕ) → WaitingRelay →
    List (Output StoredRelay) → Type 0
RelayFollows lists p numbering Lets sys c after outs =
    FollowsByCalls lists p numbering Lets (λ t stored. IsRelayKept p numbering t c stored) (λ t. RelayStands t c after) sys c outs

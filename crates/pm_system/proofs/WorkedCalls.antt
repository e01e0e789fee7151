-- The calls of worked systems: the system after each, and that the call does so. What a test computes, or equations, say when.
use Rattle.std.proofs.Common.{◌≡◌, sym, ap, ℕ, ◌+◌, ◌<◌, ◌≤◌, true, false, [], length, replicate, Some, refl, inl}
use Rattle.pm_base.specs.Limits.{most_nodes}
use Rattle.pm_base.specs.declared.limits.Limits.{Limits}
use Rattle.pm_cache.specs.Cache.{aggregate_of}
use Rattle.pm_market.specs.Lists.{Lists, parent, is_member, changes, IsNode, IsLeaf, IsConcentrator}
use Rattle.pm_market.specs.State.{no_changes}
use Rattle.pm_net.specs.Pricing.{Pricing}
use Rattle.pm_net.specs.Messages.{bid_message}
use Rattle.pm_net.specs.Agents.{new_agent, may_offer, after_offer, setpoints_for, after_price}
use Rattle.pm_net_plan.specs.Places.{Numbering}
use Rattle.pm_auctioneer.specs.Auctions.{new_auction}
use Rattle.pm_concentrator.specs.Concentrators.{own_demand}
use Rattle.pm_session.specs.Windows.{record_of}
use Rattle.pm_relay.specs.Relays.{RelayValue, RelayComesBack, LooksForRecord, newest_bid_number, limits_of_number, with_child_bid}
use Rattle.pm_relay.specs.Roots.{RootValue, with_root_bid}
use Rattle.pm_relay.specs.declared.outcome.PriceOutcome.TheVariants.{PassedOn}
use Rattle.pm_relay_net.specs.RelayIs.{LimitsPassBy, told_demand, update_of, prices_down}
use Rattle.pm_relay_net.specs.RootIs.{root_prices}
use Rattle.pm_system.specs.System.{System, bid_in_channel, price_in_channel, with_root, with_relay, with_agent, with_setpoints, with_bid_sent}
use Rattle.pm_system.specs.System.{with_prices_sent}
use Rattle.pm_system.specs.Calls.{DeviceBids, DeviceTakesPrice, RelayTakesBid, RelaySends, RelayTakesPrice, RootTakesBid, RootClears}
use Rattle.pm_system.specs.Given.{IsStarted}
use Rattle.pm_system.proofs.WorkedValues.{new_root, root_looks_on, sent_relay, may_send, sends, passed_relay, may_pass, passes_on, cleared_root}
use Rattle.pm_system.proofs.WorkedValues.{may_clear, clears}

-- ---- the start

abbrev pub first_system : (ℕ → RelayValue) → System
first_system relays' = record {
  root = new_root;
  relays = relays';
  agents = λ d. new_agent;
  setpoints = λ d. [];
  bids_sent = λ x. [];
  prices_sent = λ x. [];
}

-- each node comes up for the first time
pub is_started : (lists : Lists) (p : Pricing) (relays : ℕ → RelayValue) → p.steps ≡ 3 → ((c : ℕ) → IsConcentrator lists c →
    (limits : Limits) × (p.limits c no_changes ≡ Some limits) × RelayComesBack p.steps limits 0 0 0 (replicate most_nodes 0) limits (relays c)) →
    IsStarted lists p (first_system relays)
is_started lists p relays steps back = record {
  root = record { auction = ap (new_auction most_nodes) (sym steps); base = refl; recorded = refl };
  relays = back;
  agents = λ d leaf. refl;
  setpoints = λ d. refl;
  bids_sent = λ x. refl;
  prices_sent = λ x. refl;
}

-- ---- the systems

abbrev pub offered : Pricing → System → ℕ → System
offered p sys d = with_bid_sent (with_agent sys d (after_offer (sys.agents d) (p.demand d ((sys.agents d).number + 2)))) d
    (bid_message ((sys.agents d).number + 2) false (p.demand d ((sys.agents d).number + 2)))

abbrev pub told_relay : Lists → Pricing → Numbering → System → ℕ → ℕ → RelayValue
told_relay lists p numbering sys x k = with_child_bid (sys.relays (parent lists x)) (numbering.place x) (bid_in_channel p sys x k).number
    (told_demand (bid_in_channel p sys x k))

abbrev pub told_root : Pricing → Numbering → System → ℕ → ℕ → RootValue
told_root p numbering sys x k =
    with_root_bid sys.root (numbering.place x) (bid_in_channel p sys x k).number (told_demand (bid_in_channel p sys x k))

abbrev pub sent : System → ℕ → System
sent sys c = with_bid_sent (with_relay sys c (sent_relay (sys.relays c))) c
    (bid_message (newest_bid_number (sys.relays c) + 1) false (own_demand (sent_relay (sys.relays c)).gathered))

abbrev pub cleared : Lists → Numbering → System → System
cleared lists numbering sys =
    with_prices_sent lists numbering (with_root sys (cleared_root sys.root)) 0 (root_prices (cleared_root sys.root))

abbrev pub passed : Lists → Numbering → System → ℕ → ℕ → System
passed lists numbering sys c k =
    with_prices_sent lists numbering (with_relay sys c (passed_relay (sys.relays c) (update_of (price_in_channel sys c k)))) c
    (prices_down (passed_relay (sys.relays c) (update_of (price_in_channel sys c k))) (update_of (price_in_channel sys c k)) PassedOn)

abbrev pub taken : System → ℕ → ℕ → System
taken sys d k = with_setpoints (with_agent sys d (after_price (sys.agents d) (price_in_channel sys d k))) d
    (setpoints_for (sys.agents d) (price_in_channel sys d k))

-- ---- the calls

-- a device offers
pub bids : (lists : Lists) (p : Pricing) (sys : System) (d : ℕ) → IsLeaf lists d → (sys.agents d).number + 2 ≤ changes lists d →
    is_member lists d ((sys.agents d).number + 2) ≡ true → may_offer (sys.agents d) ≡ true → DeviceBids lists p sys d (offered p sys d)
bids lists p sys d leaf has_next member may = record {
  agent = _;
  bid = _;
  made = record {
    leaf = leaf;
    has_next = has_next;
    change = inl (record { member = member; may = may; offered = refl; bid_is = refl });
  };
  new_is = refl;
}

-- a relay takes a bid
pub takes_bid : (lists : Lists) (p : Pricing) (numbering : Numbering) (sys : System) (x k : ℕ) (relay : RelayValue) → IsNode lists x →
    (parent lists x ≡ 0 → ⊥) → k < length (sys.bids_sent x) → LimitsPassBy p (parent lists x) x →
    LooksForRecord (told_relay lists p numbering sys x k) relay → RelayTakesBid lists p numbering sys x k (with_relay sys (parent lists x) relay)
takes_bid lists p numbering sys x k relay node below inside passes looks = record {
  node = node;
  below = below;
  inside = inside;
  relay = relay;
  learnt = inl (record { passes = passes; learnt = looks });
  new_is = refl;
}

-- so does the root, if it never restarted
pub root_takes_bid : (lists : Lists) (p : Pricing) (numbering : Numbering) (sys : System) (x k : ℕ) → IsNode lists x → parent lists x ≡ 0 →
    k < length (sys.bids_sent x) → sys.root.base ≡ 0 → RootTakesBid lists p numbering sys x k (with_root sys (told_root p numbering sys x k))
root_takes_bid lists p numbering sys x k node below inside first = record {
  node = node;
  below = below;
  inside = inside;
  root = _;
  learnt = root_looks_on (told_root p numbering sys x k) first;
  new_is = refl;
}

-- a relay sends its bid, under the limits that it has
pub sends_bid : (lists : Lists) (sys : System) (c : ℕ) (l : Limits) → IsConcentrator lists c → may_send (sys.relays c) ≡ true →
    (sys.relays c).gathered.limits ≡ Some l → limits_of_number (sent_relay (sys.relays c)) (newest_bid_number (sys.relays c) + 1) ≡ Some l →
    RelaySends lists sys c (sent sys c)
sends_bid lists sys c l conc may limits under =
    record { conc = conc; relay = _; number = _; sent = sends (sys.relays c) l may limits under; new_is = refl }

-- the root clears
pub clears_market : (lists : Lists) (numbering : Numbering) (sys : System) → may_clear sys.root ≡ true →
    RootClears lists numbering sys (cleared lists numbering sys)
clears_market lists numbering sys may = record { root = _; index = _; step = _; cleared = clears sys.root may; new_is = refl }

-- a relay takes a price, and passes it on
pub passes_price : (lists : Lists) (numbering : Numbering) (sys : System) (c k : ℕ) → IsConcentrator lists c → k < length (sys.prices_sent c) →
    may_pass (sys.relays c) (update_of (price_in_channel sys c k)) ≡ true → record_of (sys.relays c).gathered.window 1 ≡
    record { number = 1; heads = (sys.relays c).gathered.cache.heads; sum = Some (aggregate_of (sys.relays c).gathered.cache) } →
    RelayTakesPrice lists numbering sys c k (passed lists numbering sys c k)
passes_price lists numbering sys c k conc inside may has = record {
  conc = conc;
  inside = inside;
  relay = _;
  outcome = PassedOn;
  taken = passes_on (sys.relays c) (update_of (price_in_channel sys c k)) may has;
  new_is = refl;
}

-- a device takes one
pub takes_price : (lists : Lists) (sys : System) (d k : ℕ) → IsLeaf lists d → k < length (sys.prices_sent d) →
    DeviceTakesPrice lists sys d k (taken sys d k)
takes_price lists sys d k leaf inside = record { leaf = leaf; inside = inside; new_is = refl }

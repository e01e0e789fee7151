-- What one node's calls leave as it is, and that messages stay sent.
use Rattle.std.proofs.Common.{◌≡◌, ◌∙◌, sym, ap, subst, ℕ, ◌<◌, List, [], ◌∷◌, ◌++◌, length, get_or, refl, inl, inr}
use Rattle.std.proofs.Common.{arith, append_assoc, append-nil, length-append}
use Rattle.std.proofs.lemmas.List.{get_or_append_left}
use Rattle.std.specs.List.{Contains}
use Rattle.pm_market.specs.Lists.{Lists, parent}
use Rattle.pm_market.specs.State.{update}
use Rattle.pm_market.proofs.Cuts.{updated_other}
use Rattle.pm_laws.proofs.Facts.{updated_at}
use Rattle.pm_net.specs.Pricing.{Pricing}
use Rattle.pm_net.specs.Messages.{BidMessage, PriceMessage, nothing_heard, no_price}
use Rattle.pm_net.proofs.Messages.{either}
use Rattle.pm_net_plan.specs.Places.{Numbering}
use Rattle.pm_relay.specs.Relays.{RelayValue}
use Rattle.pm_relay.specs.Roots.{RootValue}
use Rattle.pm_net.specs.Agents.{Setpoint, DeviceAgent}
use Rattle.pm_system.specs.System.{System, price_in_channel, bid_in_channel, with_root, with_relay, with_agent, with_bid_sent, with_prices_sent}
use Rattle.pm_system.specs.System.{with_prices_told, with_setpoints}
use Rattle.pm_lives.specs.Outputs.{PriceWasSent, BidWasSent, OutputWasSent, WereSent, EachKept}
use Rattle.pm_services.specs.Outputs.{Output, Up, Down, Keeps, Tells, Says}
use Rattle.pm_lives.specs.Moves.{OnlyMoves}

none_more : {A : Type 0} (l : List A) → (more : List A) × (l ≡ l ++ more)
none_more l = ([], sym (append-nil l))

-- where the values of one node alone change, and nothing is sent, all other nodes are left as they are
values_move : (y : ℕ) (sys : System) (root : RootValue) (relays : ℕ → RelayValue) → ((y ≡ 0 → ⊥) → root ≡ sys.root) →
    ((z : ℕ) → (z ≡ y → ⊥) → relays z ≡ sys.relays z) → OnlyMoves y sys (record sys { root = root; relays = relays })
values_move y sys root relays same_root same_relays = record {
  root = same_root;
  relays = same_relays;
  agents = λ z ne. refl;
  bids = λ x. none_more (sys.bids_sent x);
  prices = λ x. none_more (sys.prices_sent x);
  setpoints = λ x. none_more (sys.setpoints x);
  untold = λ x ne. refl;
}

-- where nothing is called, all is left as it is
pub still : (y : ℕ) (sys : System) → OnlyMoves y sys sys
still y sys = values_move y sys sys.root sys.relays (λ ne. refl) (λ z ne. refl)

more_then : {A : Type 0} (a b c : List A) → (more : List A) × (b ≡ a ++ more) → (more : List A) × (c ≡ b ++ more) →
    (more : List A) × (c ≡ a ++ more)
more_then a b c first then =
    (first.0 ++ then.0, then.1 ∙ ap (λ l. l ++ then.0) first.1 ∙ append_assoc a first.0 then.0)

-- calls of one node after calls of it leave all other nodes as they are
pub then_moves : (y : ℕ) (sys mid new : System) → OnlyMoves y sys mid → OnlyMoves y mid new → OnlyMoves y sys new
then_moves y sys mid new first then = record {
  root = λ ne. then.root ne ∙ first.root ne;
  relays = λ z ne. then.relays z ne ∙ first.relays z ne;
  agents = λ z ne. then.agents z ne ∙ first.agents z ne;
  bids = λ x. more_then (sys.bids_sent x) (mid.bids_sent x) (new.bids_sent x) (first.bids x) (then.bids x);
  prices = λ x. more_then (sys.prices_sent x) (mid.prices_sent x) (new.prices_sent x) (first.prices x) (then.prices x);
  setpoints = λ x. more_then (sys.setpoints x) (mid.setpoints x) (new.setpoints x) (first.setpoints x) (then.setpoints x);
  untold = λ x ne. then.untold x ne ∙ first.untold x ne;
}

-- ---- the calls

update_grows : {A : Type 0} (f : ℕ → List A) (x : ℕ) (more : List A) (z : ℕ) → (rest : List A) × (update f x (f x ++ more) z ≡ f z ++ rest)
update_grows {A = A} f x more z = elim (updated_at f x (f x ++ more) z) [
  | inl w ↦ (more, w.1 ∙ ap (λ (n : ℕ). f n ++ more) (sym w.0))
  | inr w ↦ ([], w.1 ∙ sym (append-nil (f z)))
]

-- a change of a relay leaves all other nodes as they are
pub relay_moved : (sys : System) (c : ℕ) (relay : RelayValue) → OnlyMoves c sys (with_relay sys c relay)
relay_moved sys c relay = values_move c sys sys.root (update sys.relays c relay) (λ ne. refl) (λ z ne. updated_other sys.relays c relay z ne)

-- so does a change of the auctioneer
pub root_moved : (sys : System) (root : RootValue) → OnlyMoves 0 sys (with_root sys root)
root_moved sys root = values_move 0 sys root sys.relays (λ ne. absurd (ne refl)) (λ z ne. refl)

-- and a change of a device
pub agent_moved : (sys : System) (d : ℕ) (agent : DeviceAgent) → OnlyMoves d sys (with_agent sys d agent)
agent_moved sys d agent = record {
  root = λ ne. refl;
  relays = λ z ne. refl;
  agents = λ z ne. updated_other sys.agents d agent z ne;
  bids = λ x. none_more (sys.bids_sent x);
  prices = λ x. none_more (sys.prices_sent x);
  setpoints = λ x. none_more (sys.setpoints x);
  untold = λ x ne. refl;
}

-- setpoints for a device's control leave all other nodes as they are
pub setpoints_pushed : (sys : System) (d : ℕ) (given : List Setpoint) → OnlyMoves d sys (with_setpoints sys d given)
setpoints_pushed sys d given = record {
  root = λ ne. refl;
  relays = λ z ne. refl;
  agents = λ z ne. refl;
  bids = λ x. none_more (sys.bids_sent x);
  prices = λ x. none_more (sys.prices_sent x);
  setpoints = λ x. update_grows sys.setpoints d given x;
  untold = λ x ne. updated_other sys.setpoints d (sys.setpoints d ++ given) x ne;
}

-- prices that are sent leave all nodes as they are
pub prices_told : (sys : System) (y z : ℕ) (prices : List PriceMessage) → OnlyMoves y sys (with_prices_told sys z prices)
prices_told sys y z prices = record {
  root = λ ne. refl;
  relays = λ z ne. refl;
  agents = λ z ne. refl;
  bids = λ x. none_more (sys.bids_sent x);
  prices = λ x. update_grows sys.prices_sent z prices x;
  setpoints = λ x. none_more (sys.setpoints x);
  untold = λ x ne. refl;
}

-- so does a bid that is sent
pub bid_pushed : (sys : System) (y x : ℕ) (bid : BidMessage) → OnlyMoves y sys (with_bid_sent sys x bid)
bid_pushed sys y x bid = record {
  root = λ ne. refl;
  relays = λ z ne. refl;
  agents = λ z ne. refl;
  bids = λ z. update_grows sys.bids_sent x (bid ∷ []) z;
  prices = λ z. none_more (sys.prices_sent z);
  setpoints = λ z. none_more (sys.setpoints z);
  untold = λ x ne. refl;
}

-- and a price that is sent to each child
pub prices_pushed : (lists : Lists) (numbering : Numbering) (sys : System) (y : ℕ) (prices : ℕ → List PriceMessage) →
    OnlyMoves y sys (with_prices_sent lists numbering sys y prices)
prices_pushed lists numbering sys y prices = record {
  root = λ ne. refl;
  relays = λ z ne. refl;
  agents = λ z ne. refl;
  bids = λ z. none_more (sys.bids_sent z);
  prices = λ x. either (λ (l : List PriceMessage). (more : List PriceMessage) × (l ≡ sys.prices_sent x ++ more))
      (Rattle.std.proofs.Common.eqb (parent lists x) y)
      (sys.prices_sent x ++ prices (numbering.place x)) (sys.prices_sent x) (λ e. (prices (numbering.place x), refl)) (λ e. none_more (sys.prices_sent x));
  setpoints = λ z. none_more (sys.setpoints z);
  untold = λ x ne. refl;
}

-- ---- messages stay

pub price_stays : (y : ℕ) (sys new : System) → OnlyMoves y sys new → (x k : ℕ) → k < length (sys.prices_sent x) →
    (k < length (new.prices_sent x)) × (price_in_channel new x k ≡ price_in_channel sys x k)
price_stays y sys new moves x k inside =
    let more = moves.prices x in (
      omega (arith, inside, ap (λ (l : List PriceMessage). length l) more.1, length-append (sys.prices_sent x) more.0),
      ap (λ (l : List PriceMessage). get_or l k no_price) more.1 ∙ get_or_append_left (sys.prices_sent x) more.0 no_price k inside,
    )

-- a price that was sent before these calls was sent after them
pub price_still_sent : (y : ℕ) (sys new : System) → OnlyMoves y sys new → (x : ℕ) (price : PriceMessage) → PriceWasSent sys x price →
    PriceWasSent new x price
price_still_sent y sys new moves x price sent =
    let at = price_stays y sys new moves x sent.0 sent.1 in
    (sent.0, at.0, at.1 ∙ sent.2)

bid_stays : (p : Pricing) (y : ℕ) (sys new : System) → OnlyMoves y sys new → (x k : ℕ) → k < length (sys.bids_sent x) →
    (k < length (new.bids_sent x)) × (bid_in_channel p new x k ≡ bid_in_channel p sys x k)
bid_stays p y sys new moves x k inside =
    let more = moves.bids x in (
      omega (arith, inside, ap (λ (l : List BidMessage). length l) more.1, length-append (sys.bids_sent x) more.0),
      ap (λ (l : List BidMessage). get_or l k (nothing_heard p)) more.1 ∙ get_or_append_left (sys.bids_sent x) more.0 (nothing_heard p) k inside,
    )

-- so was a bid
pub bid_still_sent : (p : Pricing) (y : ℕ) (sys new : System) → OnlyMoves y sys new → (x : ℕ) (bid : BidMessage) → BidWasSent p sys x bid →
    BidWasSent p new x bid
bid_still_sent p y sys new moves x bid sent =
    let at = bid_stays p y sys new moves x sent.place sent.inside in
    record { place = sent.place; inside = at.0; is = at.1 ∙ sent.is }

module _ {K : Type 0} (lists : Lists) (p : Pricing) (numbering : Numbering) (y : ℕ) (sys new : System) (moves : OnlyMoves y sys new) (of : ℕ) where
  was_sent : (out : Output K) → OutputWasSent lists p numbering sys of out → OutputWasSent lists p numbering new of out
  was_sent (Up bid) sent = bid_still_sent p y sys new moves of bid sent
  was_sent (Down place price) sent = λ x node up at. price_still_sent y sys new moves x price (sent x node up at)
  was_sent (Keeps stored) sent = tt
  was_sent (Tells setpoint) sent =
      let more = moves.setpoints of in
      subst (λ (l : List Setpoint). Contains l setpoint) (sym more.1) (
        sent.0,
        omega (arith, sent.1, length-append (sys.setpoints of) more.0),
        get_or_append_left (sys.setpoints of) more.0 setpoint sent.0 sent.1 ∙ sent.2,
      )
  was_sent (Says bytes) sent = tt

  -- so was each message in these frames
  pub were_sent : (outs : List (Output K)) → WereSent lists p numbering sys of outs → WereSent lists p numbering new of outs
  were_sent [] sent = tt
  were_sent (out ∷ outs) sent = (was_sent out sent.0, were_sent outs sent.1)

-- if each message of two lists of frames was sent, so was each of both
pub both_sent : {K : Type 0} (lists : Lists) (p : Pricing) (numbering : Numbering) (sys : System) (y : ℕ) (first then : List (Output K)) →
    WereSent lists p numbering sys y first → WereSent lists p numbering sys y then → WereSent lists p numbering sys y (first ++ then)
both_sent lists p numbering sys y [] then one two = two
both_sent lists p numbering sys y (out ∷ first) then one two = (one.0, both_sent lists p numbering sys y first then one.1 two)

-- ---- what may be stored

pub kept_to : {K : Type 0} (Before After : K → Type 0) → ((stored : K) → Before stored → After stored) → (outs : List (Output K)) →
    EachKept Before outs →
    EachKept After outs
kept_to Before After to [] kept = tt
kept_to Before After to (Up bid ∷ outs) kept = (tt, kept_to Before After to outs kept.1)
kept_to Before After to (Down place price ∷ outs) kept = (tt, kept_to Before After to outs kept.1)
kept_to Before After to (Keeps stored ∷ outs) kept = (to stored kept.0, kept_to Before After to outs kept.1)
kept_to Before After to (Tells setpoint ∷ outs) kept = (tt, kept_to Before After to outs kept.1)
kept_to Before After to (Says bytes ∷ outs) kept = (tt, kept_to Before After to outs kept.1)

-- if each Resume of two lists of frames may be stored, so may each of both
pub both_kept : {K : Type 0} (Is : K → Type 0) (first then : List (Output K)) → EachKept Is first → EachKept Is then → EachKept Is (first ++ then)
both_kept Is [] then one two = two
both_kept Is (out ∷ first) then one two = (one.0, both_kept Is first then one.1 two)

-- What the service of a relay answers to a frame is some calls of the relay.
use Rattle.std.proofs.Common.{◌≡◌, ◌⊎◌, ◌∙◌, sym, ap, subst, ℕ, ◌≤◌, Bool, true, false, cond, not, ◌&&◌, eqb, leb, ltb}
use Rattle.std.proofs.Common.{ℤ, List, [], ◌∷◌, ◌++◌, length, get_or, Option, Some, None, refl, inl, inr, arith, append-nil, append_assoc}
use Rattle.std.proofs.Common.{subst₂, ◌<◌}
use Rattle.std.specs.Prelude.{IfSome}
use Rattle.std.proofs.lemmas.Bool.{cases_Bool, cond-true, eq-eqb, both_ways, and_parts}
use Rattle.std.proofs.lemmas.List.{get_or_push, length_push}
use Rattle.pm_bid.specs.Heads.{nothing_sent}
use Rattle.pm_market.specs.Lists.{Lists, parent, IsNode, IsConcentrator}
use Rattle.pm_market.proofs.Cuts.{updated_same}
use Rattle.pm_session.specs.declared.price.PriceUpdate.{PriceUpdate}
use Rattle.pm_session.specs.Prices.{price_to}
use Rattle.pm_cache.specs.Cache.{kept_number}
use Rattle.pm_concentrator.specs.Concentrators.{own_demand}
use Rattle.pm_concentrator.specs.Limited.{settled_step_of_record}
use Rattle.pm_net.specs.Pricing.{Pricing}
use Rattle.pm_net.specs.Messages.{BidMessage, PriceMessage, bid_message, no_price}
use Rattle.pm_net.proofs.Messages.{either}
use Rattle.pm_net_plan.specs.Places.{Numbering}
use Rattle.pm_wire.specs.Answers.{answer_bytes}
use Rattle.pm_wire.specs.declared.answer.Reply.{Reply}
use Rattle.pm_relay.specs.Relays as relays
use Rattle.pm_relay.specs.Relays.{RelayValue, newest_bid_number, record_at, with_child_bid, with_new_limits, limits_of_number, LooksForRecord, BidSent}
use Rattle.pm_relay.specs.declared.outcome.PriceOutcome.{PriceOutcome}
use Rattle.pm_relay.specs.declared.outcome.PriceOutcome.TheVariants.{PassedOn, Alone, Waits, Dropped}
use Rattle.pm_base.specs.declared.limits.Limits.{Limits}
use Rattle.pm_relay_net.specs.RelayIs.{LimitsPassBy, GivesLimits, told_demand, update_of, messages_of, prices_down}
use Rattle.pm_frames.specs.Stored.{StoredRelay}
use Rattle.pm_services.specs.Receipts.{sender_place}
use Rattle.pm_services.specs.RelayWrites as answers
use Rattle.pm_basis.specs.Prices.{BasisValue}
use Rattle.pm_frames.specs.Answers.{too_much_bytes, other_basis_bytes, out_of_limits_bytes}
use Rattle.pm_services.specs.RelaySetups.{RelaySetup}
use Rattle.pm_services.specs.RelayWrites.{WaitingRelay, stored_relay, has_step_within, waiting_with, waiting_after}
use Rattle.pm_system.specs.System.{System, bid_in_channel, price_in_channel, with_relay, with_bid_sent, with_prices_sent}
use Rattle.pm_system.specs.Calls as call
use Rattle.pm_system.specs.Expiry.{RelayExpires, AreTwoCalls}
use Rattle.pm_system.specs.Given.{IsTreeMarket}
use Rattle.pm_system.specs.Market.{RunsTheMarket}
use Rattle.pm_bid.specs.Bids.{zeros}
use Rattle.pm_relay.specs.Numbers.{child_number, known_number, parents_number}
use Rattle.pm_wire.specs.declared.frame.Frame.TheVariants.{Hello, Bid, Gone, Clear}
use Rattle.pm_frames.specs.declared.parent.ParentFrame.TheVariants.{Price, Old}
use Rattle.pm_frames.specs.declared.relay.RelayFrame.{RelayFrame}
use Rattle.pm_frames.specs.declared.relay.RelayFrame.TheVariants.{Child, Parent, Send, Expire, Bound, Resume}
use Rattle.pm_frames.specs.declared.relay.RelayFrame.TheVariants as given
use Rattle.pm_system.specs.Calls.{NodeCall, SystemRuns}
use Rattle.pm_system.proofs.Moving.{relay_no_root, new_in}
use Rattle.pm_lives.specs.Outputs.{PriceWasSent, WereSent, BeginsWithResume}
use Rattle.pm_services.specs.Outputs.{Output, Keeps, Says}
use Rattle.pm_lives.specs.Moves.{OnlyMoves, AreCalm}
use Rattle.pm_services.specs.RelayWrites.{WritesBounded, WritesTold, WritesGiven, WritesKept, bid_outs}
use Rattle.pm_lives.specs.Moves.{lets_none}
use Rattle.pm_services.specs.Receipts.{receipt_outs, downs}
use Rattle.pm_services.specs.RelayWrites.{own_bid, bid_again_outs, drop_outs, price_outs, WritesPrice, WritesWaiting, WritesBid}
use Rattle.pm_services.specs.RelayWrites.{WritesLimits, WritesExpire, WritesSend, WritesRelay}
use Rattle.pm_lives.specs.RelayLife.{IsOfPrice, UpdateWasSent, RelayStands, IsRelayKept, numbers_in_places, CarriesBid, CarriesLimits, CarriesExpire}
use Rattle.pm_lives.specs.RelayLife.{RelayMayRead, RelayFollows, RelayLets}
use Rattle.pm_lives.proofs.Staying.{still, then_moves, relay_moved, bid_pushed, prices_pushed, were_sent, both_sent, both_kept}
use Rattle.pm_lives.proofs.Downs.{downs_sent, downs_keep_none}
use Rattle.pm_lives.proofs.After.{runs_on, calm_on}
use Rattle.pm_lives.proofs.RelayValues.{under_numbers, of_price_stays, update_stays, price_is_of, SameNumbers, same_self, kept_stays, AreKept}
use Rattle.pm_lives.proofs.RelayValues.{are_kept, own_kept, looks_same, limits_same, takes_same, takes_held, sent_last}

-- ---- words of other crates

-- the law of systems of the call `expire`
abbrev pub ExpiringIsTwoCalls : Type 0
ExpiringIsTwoCalls = (lists : Lists) (p : Pricing) (numbering : Numbering) (calls : List NodeCall) (sys new : System) (d : ℕ) →
    IsTreeMarket lists p numbering → RunsTheMarket lists p numbering calls sys → (did : RelayExpires lists p numbering sys d new) →
    AreTwoCalls lists p numbering sys d did.number new

-- the law of systems that a run goes on
abbrev pub RunsGoOn : Type 0
RunsGoOn = (lists : Lists) (p : Pricing) (numbering : Numbering) (before more : List NodeCall) (sys new : System) → IsTreeMarket lists p numbering →
    RunsTheMarket lists p numbering before sys → SystemRuns lists p numbering sys more new → RunsTheMarket lists p numbering (before ++ more) new

-- ---- moves

abbrev Outs : Type 0
Outs = List (Output StoredRelay)

-- what a relay makes of what is stored when a life begins: what is stored may stay
pub record LearnsKept (lists : Lists) (p : Pricing) (numbering : Numbering) (Lets : ℕ → ℕ → Type 0) (sys : System) (c : ℕ) (after : WaitingRelay)
    (outs : List (Output StoredRelay)) : Type 0 where
  -- the answer is some calls of the relay
  pub follows : RelayFollows lists p numbering Lets sys c after outs
  pub keeps : (stored : StoredRelay) → IsRelayKept p numbering sys c stored → IsRelayKept p numbering follows.new c stored

module _ (Lets : ℕ → ℕ → Type 0) (lists : Lists) (p : Pricing) (numbering : Numbering) (c : ℕ) (conc : IsConcentrator lists c)
    (market : IsTreeMarket lists p numbering) (goes : RunsGoOn) (own : RelaySetup) where
  -- the system runs the market, and goes on to
  abbrev Has : System → Type 0
  Has sys = (before : List NodeCall) × RunsTheMarket lists p numbering before sys

  has_then : (sys new : System) (calls : List NodeCall) → SystemRuns lists p numbering sys calls new → Has sys → Has new
  has_then sys new calls runs has = (has.0 ++ calls, goes lists p numbering has.0 calls sys new market has.1 runs)

  -- a system whose relay holds a price that was sent to it
  record Ready (sys : System) : Type 0 where
    price : IsOfPrice sys c (sys.relays c).answered (sys.relays c).index
    has : Has sys

  -- the limits of its newest bid are those that the numbers in it give
  own_under : (sys : System) (r : RelayValue) → sys.relays c ≡ r → Has sys →
      p.limits c (numbers_in_places numbering r.recorded) ≡ limits_of_number r (newest_bid_number r)
  own_under sys r is has =
      subst (λ (q : RelayValue). p.limits c (numbers_in_places numbering q.recorded) ≡ limits_of_number q (newest_bid_number q)) is
      (under_numbers lists p numbering market has.0 sys has.1 c conc)

  -- some calls of c, after which its relay is this one, and what was written
  record Moves (sys : System) (relay : RelayValue) (reply : Outs) : Type 0 where
    calls : List NodeCall
    new : System
    runs : SystemRuns lists p numbering sys calls new
    up : (x : ℕ) → AreCalm Lets x calls
    only : OnlyMoves c sys new
    is : new.relays c ≡ relay
    held : IsOfPrice new c relay.answered relay.index
    has : Has new
    sent : WereSent lists p numbering new c reply
    kept : AreKept p numbering new c reply

  stays : (sys : System) → Ready sys → Moves sys (sys.relays c) []
  stays sys ready = record {
    calls = [];
    new = sys;
    runs = refl;
    up = λ x. tt;
    only = still c sys;
    is = refl;
    held = ready.price;
    has = ready.has;
    sent = tt;
    kept = tt;
  }

  -- it says something that no law speaks of
  says : (sys : System) (bytes : List ℕ) → Ready sys → Moves sys (sys.relays c) (Says bytes ∷ [])
  says sys bytes ready = record {
    calls = [];
    new = sys;
    runs = refl;
    up = λ x. tt;
    only = still c sys;
    is = refl;
    held = ready.price;
    has = ready.has;
    sent = (tt, tt);
    kept = (tt, tt);
  }

  -- moves one after the other
  then_both : (sys : System) (one two : RelayValue) (reply more : Outs) (first : Moves sys one reply) (then : Moves first.new two more) →
      SameNumbers one two → Moves sys two (reply ++ more)
  then_both sys one two reply more first then same = record {
    calls = first.calls ++ then.calls;
    new = then.new;
    runs = runs_on lists p numbering first.calls then.calls sys first.new then.new first.runs then.runs;
    up = λ x. calm_on Lets x first.calls then.calls (first.up x) (then.up x);
    only = then_moves c sys first.new then.new first.only then.only;
    is = then.is;
    held = then.held;
    has = then.has;
    sent = both_sent lists p numbering then.new c reply more
        (were_sent lists p numbering c first.new then.new then.only c reply first.sent) then.sent;
    kept = both_kept (λ (k : StoredRelay). IsRelayKept p numbering then.new c k) reply more
        (are_kept p numbering c first.new then.new then.only (subst₂ SameNumbers (sym first.is) (sym then.is) same) reply first.kept) then.kept;
  }

  -- it learns a bid
  learns : (sys : System) (sender number : ℕ) (demand : Option (List ℤ)) → CarriesBid lists p numbering sys c sender number demand →
      (learnt : RelayValue) → LooksForRecord (with_child_bid (sys.relays c) (sender_place sender) number demand) learnt →
      Ready sys → Moves sys learnt []
  learns sys sender number demand carries learnt looks ready =
      let bid : BidMessage = bid_in_channel p sys carries.x carries.place in
      let new : System = with_relay sys c learnt in
      let place_is : sender_place sender ≡ numbering.place carries.x = omega (arith, carries.sender_is) in
      let at_place : LooksForRecord (with_child_bid (sys.relays c) (numbering.place carries.x) number demand) learnt =
      subst (λ (k : ℕ). LooksForRecord (with_child_bid (sys.relays c) k number demand) learnt) place_is looks in
      let at_number : LooksForRecord (with_child_bid (sys.relays c) (numbering.place carries.x) bid.number demand) learnt =
      subst (λ (k : ℕ). LooksForRecord (with_child_bid (sys.relays c) (numbering.place carries.x) k demand) learnt) carries.number_is at_place in
      let at_demand : LooksForRecord (with_child_bid (sys.relays c) (numbering.place carries.x) bid.number (told_demand bid)) learnt =
      subst (λ (d : Option (List ℤ)). LooksForRecord (with_child_bid (sys.relays c) (numbering.place carries.x) bid.number d) learnt)
      carries.demand_is at_number in
      let looked = looks_same (with_child_bid (sys.relays c) (sender_place sender) number demand) learnt looks in
      let passes : LimitsPassBy p (parent lists carries.x) carries.x =
      subst (λ (y : ℕ). LimitsPassBy p y carries.x) (sym carries.up) (carries.passes (relay_no_root lists c conc)) in
      let runs : SystemRuns lists p numbering sys (call.TakesBid carries.x carries.place ∷ []) new = (
        new,
        inl (record {
          node = carries.node;
          below = λ e. relay_no_root lists c conc (sym carries.up ∙ e);
          inside = carries.inside;
          relay = learnt;
          learnt = inl (record {
            passes = passes;
            learnt = subst (λ (y : ℕ). LooksForRecord (with_child_bid (sys.relays y) (numbering.place carries.x) bid.number (told_demand bid)) learnt)
                (sym carries.up) at_demand;
          });
          new_is = ap (λ (y : ℕ). with_relay sys y learnt) (sym carries.up);
        }),
        refl,
      ) in
      record {
        calls = call.TakesBid carries.x carries.place ∷ [];
        new = new;
        runs = runs;
        has = has_then sys new (call.TakesBid carries.x carries.place ∷ []) runs ready.has;
        up = λ x. (tt, tt);
        only = relay_moved sys c learnt;
        is = updated_same sys.relays c learnt;
        held = of_price_stays c sys new (relay_moved sys c learnt) c learnt.answered learnt.index
            (subst₂ (IsOfPrice sys c) (sym looked.1) (sym looked.2) ready.price);
        sent = tt;
        kept = tt;
      }

  -- it learns limits
  learns_limits : (sys : System) (sender number : ℕ) (limits : Limits) → CarriesLimits lists p numbering sys c sender number limits →
      (learnt : RelayValue) → LooksForRecord (with_new_limits (sys.relays c) (sender_place sender) number limits) learnt →
      Ready sys → Moves sys learnt []
  learns_limits sys sender number limits carries learnt looks ready =
      let bid : BidMessage = bid_in_channel p sys carries.x carries.place in
      let new : System = with_relay sys c learnt in
      let place_is : sender_place sender ≡ numbering.place carries.x = omega (arith, carries.sender_is) in
      let at_place : LooksForRecord (with_new_limits (sys.relays c) (numbering.place carries.x) number limits) learnt =
      subst (λ (k : ℕ). LooksForRecord (with_new_limits (sys.relays c) k number limits) learnt) place_is looks in
      let at_number : LooksForRecord (with_new_limits (sys.relays c) (numbering.place carries.x) bid.number limits) learnt =
      subst (λ (k : ℕ). LooksForRecord (with_new_limits (sys.relays c) (numbering.place carries.x) k limits) learnt) carries.number_is at_place in
      let gives : GivesLimits p c carries.x bid.number limits =
      subst (λ (k : ℕ). GivesLimits p c carries.x k limits) carries.number_is carries.gives in
      let looked = limits_same (sys.relays c) learnt (sender_place sender) number limits looks in
      let runs : SystemRuns lists p numbering sys (call.TakesBid carries.x carries.place ∷ []) new = (
        new,
        inl (record {
          node = carries.node;
          below = λ e. relay_no_root lists c conc (sym carries.up ∙ e);
          inside = carries.inside;
          relay = learnt;
          learnt = inr (record {
            limits = limits;
            gone = carries.gone;
            gives = subst (λ (y : ℕ). GivesLimits p y carries.x bid.number limits) (sym carries.up) gives;
            learnt = subst (λ (y : ℕ). LooksForRecord (with_new_limits (sys.relays y) (numbering.place carries.x) bid.number limits) learnt)
                (sym carries.up) at_number;
          });
          new_is = ap (λ (y : ℕ). with_relay sys y learnt) (sym carries.up);
        }),
        refl,
      ) in
      record {
        calls = call.TakesBid carries.x carries.place ∷ [];
        new = new;
        runs = runs;
        has = has_then sys new (call.TakesBid carries.x carries.place ∷ []) runs ready.has;
        up = λ x. (tt, tt);
        only = relay_moved sys c learnt;
        is = updated_same sys.relays c learnt;
        held = of_price_stays c sys new (relay_moved sys c learnt) c learnt.answered learnt.index
            (subst₂ (IsOfPrice sys c) (sym looked.1) (sym looked.2) ready.price);
        sent = tt;
        kept = tt;
      }

  -- what stands behind a bid is no message
  beyond_sent : (new : System) (r : RelayValue) →
      WereSent {K = StoredRelay} lists p numbering new c (cond (has_step_within r) [] (Says (out_of_limits_bytes (newest_bid_number r)) ∷ []))
  beyond_sent new r =
      either (λ (l : Outs). WereSent {K = StoredRelay} lists p numbering new c l) (has_step_within r) []
      (Says (out_of_limits_bytes (newest_bid_number r)) ∷ [])
      (λ e. tt) (λ e. (tt, tt))

  beyond_kept : (new : System) (r : RelayValue) →
      AreKept p numbering new c (cond (has_step_within r) [] (Says (out_of_limits_bytes (newest_bid_number r)) ∷ []))
  beyond_kept new r = either (λ (l : Outs). AreKept p numbering new c l) (has_step_within r) [] (Says (out_of_limits_bytes (newest_bid_number r)) ∷ [])
      (λ e. tt) (λ e. (tt, tt))

  -- it sends its newest bid again
  again : (sys : System) → Ready sys → 1 ≤ (sys.relays c).gathered.window.last →
      Moves sys (sys.relays c) (bid_outs (sys.relays c))
  again sys ready some =
      let bid : BidMessage = bid_message (newest_bid_number (sys.relays c)) false (own_demand (sys.relays c).gathered) in
      let new : System = with_bid_sent sys c bid in
      record {
        calls = call.Resends c ∷ [];
        new = new;
        runs = (new, inl (record { conc = conc; has = some; new_is = refl }), refl);
        has = has_then sys new (call.Resends c ∷ []) (new, inl (record { conc = conc; has = some; new_is = refl }), refl) ready.has;
        up = λ x. (tt, tt);
        only = bid_pushed sys c c bid;
        is = refl;
        held = of_price_stays c sys new (bid_pushed sys c c bid) c (sys.relays c).answered (sys.relays c).index ready.price;
        sent = (new_in p sys.bids_sent c bid, beyond_sent new (sys.relays c));
        kept = (tt, beyond_kept new (sys.relays c));
      }

  -- it sends its next bid
  sends : (sys : System) (relay : RelayValue) (number : ℕ) → BidSent (sys.relays c) relay number →
      Ready sys → Moves sys relay (Keeps (stored_relay own relay) ∷ bid_outs relay)
  sends sys relay number sent ready =
      let bid : BidMessage = own_bid relay in
      let new : System = with_bid_sent (with_relay sys c relay) c bid in
      let moved : OnlyMoves c sys new = then_moves c sys (with_relay sys c relay) new (relay_moved sys c relay) (bid_pushed (with_relay sys c relay) c c bid) in
      let is : new.relays c ≡ relay = updated_same sys.relays c relay in
      let holds : IsOfPrice new c relay.answered relay.index = of_price_stays c sys new moved c relay.answered relay.index
      (subst₂ (IsOfPrice sys c) (sym sent.answered) (sym sent.index) ready.price) in
      let runs : SystemRuns lists p numbering sys (call.Sends c ∷ []) new = (
        new,
        record {
          conc = conc;
          relay = relay;
          number = number;
          sent = sent;
          new_is = ap (λ (n : ℕ). with_bid_sent (with_relay sys c relay) c (bid_message n false (own_demand relay.gathered)))
              (sent_last (sys.relays c) relay number sent);
        },
        refl,
      ) in
      let has : Has new = has_then sys new (call.Sends c ∷ []) runs ready.has in
      record {
        calls = call.Sends c ∷ [];
        new = new;
        runs = runs;
        has = has;
        up = λ x. (tt, tt);
        only = moved;
        is = is;
        held = holds;
        sent = (tt, (new_in p sys.bids_sent c bid, beyond_sent new relay));
        kept = (own_kept own p numbering new c relay is (own_under new relay is has) holds, (tt, beyond_kept new relay));
      }

  begins_more : (outs more : Outs) → BeginsWithResume outs → BeginsWithResume (outs ++ more)
  begins_more outs more begins = (begins.0, begins.1 ++ more, ap (λ (l : Outs). l ++ more) begins.2)

  -- ---- it takes a price

  drops_sent : (new : System) (waiting : Option PriceUpdate) (price : PriceUpdate) → WereSent lists p numbering new c (drop_outs waiting price)
  drops_sent new None price = tt
  drops_sent new (Some first) price = (tt, tt)

  drops_kept : (new : System) (waiting : Option PriceUpdate) (price : PriceUpdate) → AreKept p numbering new c (drop_outs waiting price)
  drops_kept new None price = tt
  drops_kept new (Some first) price = (tt, tt)

  module _ (sys : System) (waiting : Option PriceUpdate) (price : PriceUpdate) (at : UpdateWasSent sys c price) (relay : RelayValue) where
    abbrev message : PriceMessage
    message = price_in_channel sys c at.0

    abbrev after_price : PriceOutcome → System
    after_price outcome = with_prices_sent lists numbering (with_relay sys c relay) c (prices_down relay (update_of message) outcome)

    told : (x : ℕ) → IsNode lists x → parent lists x ≡ c → (sent : PriceMessage) →
        messages_of (price_to (record_at relay price.number).heads
        (settled_step_of_record (limits_of_number relay price.number) price.step (record_at relay price.number).sum) price.index (numbering.place x))
        ≡ sent ∷ [] →
        PriceWasSent (after_price PassedOn) x sent
    told x node up sent is =
        let grown : (after_price PassedOn).prices_sent x ≡ sys.prices_sent x ++ sent ∷ [] =
        cond-true (eqb (parent lists x) c) (sys.prices_sent x ++ prices_down relay (update_of message) PassedOn (numbering.place x)) (sys.prices_sent x)
        (eq-eqb (parent lists x) c up)
        ∙ ap (λ (l : List PriceMessage). sys.prices_sent x ++ l)
        (ap (λ (q : PriceUpdate). prices_down relay q PassedOn (numbering.place x)) at.2 ∙ is) in (
          length (sys.prices_sent x),
          omega (arith, ap (λ (l : List PriceMessage). length l) grown, length_push (sys.prices_sent x) sent),
          ap (λ (l : List PriceMessage). get_or l (length (sys.prices_sent x)) no_price) grown
              ∙ get_or_push (sys.prices_sent x) sent no_price (length (sys.prices_sent x)) refl,
        )

    price_sent : (outcome : PriceOutcome) → WereSent lists p numbering (after_price outcome) c (price_outs own waiting relay price outcome)
    price_sent PassedOn =
        let sent : Rattle.pm_session.specs.Windows.Sent = record_at relay price.number in
        let step : ℕ = settled_step_of_record (limits_of_number relay price.number) price.step sent.sum in
        both_sent lists p numbering (after_price PassedOn) c (downs price.index step 0 sent.heads) (Keeps (stored_relay own relay) ∷ [])
        (downs_sent StoredRelay lists p numbering (after_price PassedOn) c price.index step sent.heads told 0 sent.heads
        (λ k inside. ap (λ (j : ℕ). get_or sent.heads j nothing_sent) (omega arith)))
        (tt, tt)
    price_sent Alone = (tt, tt)
    price_sent Waits = drops_sent (after_price Waits) waiting price
    price_sent Dropped = (tt, tt)

    moved_price : (outcome : PriceOutcome) → OnlyMoves c sys (after_price outcome)
    moved_price outcome = then_moves c sys (with_relay sys c relay) (after_price outcome) (relay_moved sys c relay)
        (prices_pushed lists numbering (with_relay sys c relay) c (prices_down relay (update_of message) outcome))

    price_kept : (outcome : PriceOutcome) → IsRelayKept p numbering (after_price outcome) c (stored_relay own relay) →
        AreKept p numbering (after_price outcome) c (price_outs own waiting relay price outcome)
    price_kept PassedOn mine =
        let sent : Rattle.pm_session.specs.Windows.Sent = record_at relay price.number in
        let step : ℕ = settled_step_of_record (limits_of_number relay price.number) price.step sent.sum in
        both_kept (λ (k : StoredRelay). IsRelayKept p numbering (after_price PassedOn) c k) (downs price.index step 0 sent.heads)
        (Keeps (stored_relay own relay) ∷ [])
        (downs_keep_none (λ (k : StoredRelay). IsRelayKept p numbering (after_price PassedOn) c k) price.index step 0 sent.heads) (mine, tt)
    price_kept Alone mine = (mine, tt)
    price_kept Waits mine = drops_kept (after_price Waits) waiting price
    price_kept Dropped mine = (tt, tt)

    takes : (outcome : PriceOutcome) → relays.TakesPrice (sys.relays c) relay price outcome →
        Ready sys → Moves sys relay (price_outs own waiting relay price outcome)
    takes outcome did ready =
        let new : System = after_price outcome in
        let is : new.relays c ≡ relay = updated_same sys.relays c relay in
        let holds : IsOfPrice new c relay.answered relay.index = of_price_stays c sys new (moved_price outcome) c relay.answered relay.index
        (takes_held sys c (sys.relays c) relay price outcome did ready.price (price_is_of sys c price at)) in
        let runs : SystemRuns lists p numbering sys (call.TakesPrice c at.0 ∷ []) new = (
          new,
          inl (record {
            conc = conc;
            inside = at.1;
            relay = relay;
            outcome = outcome;
            taken = subst (λ (q : PriceUpdate). relays.TakesPrice (sys.relays c) relay q outcome) (sym at.2) did;
            new_is = refl;
          }),
          refl,
        ) in
        let has : Has new = has_then sys new (call.TakesPrice c at.0 ∷ []) runs ready.has in
        record {
          calls = call.TakesPrice c at.0 ∷ [];
          new = new;
          runs = runs;
          has = has;
          up = λ x. (tt, tt);
          only = moved_price outcome;
          is = is;
          held = holds;
          sent = price_sent outcome;
          kept = price_kept outcome (own_kept own p numbering new c relay is (own_under new relay is has) holds);
        }

  still_waits : (y : ℕ) (sys new : System) → OnlyMoves y sys new → (waiting : Option PriceUpdate) → IfSome waiting (UpdateWasSent sys c) →
      IfSome waiting (UpdateWasSent new c)
  still_waits y sys new moves None is = tt
  still_waits y sys new moves (Some price) is = update_stays y sys new moves c price is

  waits_after : (sys : System) (waiting : Option PriceUpdate) (price : PriceUpdate) (outcome : PriceOutcome) → IfSome waiting (UpdateWasSent sys c) →
      UpdateWasSent sys c price → IfSome (waiting_after waiting price outcome) (UpdateWasSent sys c)
  waits_after sys waiting price PassedOn is at = is
  waits_after sys waiting price Alone is at = is
  waits_after sys None price Waits is at = at
  waits_after sys (Some first) price Waits is at =
      either (λ (w : Option PriceUpdate). IfSome w (UpdateWasSent sys c)) (ltb first.index price.index) (Some price) (Some first) (λ e. at) (λ e. is)
  waits_after sys waiting price Dropped is at = is

  -- what is known after it took a price, or tried the one that waits
  record Tried (sys : System) (new : WaitingRelay) (reply : Outs) : Type 0 where
    moves : Moves sys new.relay reply
    waiting : IfSome new.waiting (UpdateWasSent moves.new c)
    same : SameNumbers (sys.relays c) new.relay

  answers_price : (sys : System) (waiting : Option PriceUpdate) (price : PriceUpdate) (new : WaitingRelay) (reply : Outs) →
      IfSome waiting (UpdateWasSent sys c) → UpdateWasSent sys c price → Ready sys →
      WritesPrice own (record { relay = sys.relays c; waiting = waiting }) price new reply → Tried sys new reply
  answers_price sys waiting price new reply waits at ready did =
      let took : Moves sys new.relay (price_outs own waiting new.relay price did.outcome) =
      takes sys waiting price at new.relay did.outcome did.takes ready in
      let moves : Moves sys new.relay reply = subst (λ (l : Outs). Moves sys new.relay l) (sym did.replied) took in
      record {
        moves = moves;
        waiting = still_waits c sys moves.new moves.only new.waiting
            (subst (λ (w : Option PriceUpdate). IfSome w (UpdateWasSent sys c)) (sym did.waits) (waits_after sys waiting price did.outcome waits at));
        same = takes_same (sys.relays c) new.relay price did.outcome did.takes;
      }

  tries : (sys : System) (waiting : Option PriceUpdate) (new : WaitingRelay) (reply : Outs) → IfSome waiting (UpdateWasSent sys c) →
      Ready sys → WritesWaiting own waiting (sys.relays c) new reply → Tried sys new reply
  tries sys None new reply waits ready did =
      subst₂ (λ (n : WaitingRelay) (l : Outs). Tried sys n l) (sym did.0) (sym did.1)
      (record { moves = stays sys ready; waiting = tt; same = same_self (sys.relays c) })
  tries sys (Some price) new reply waits ready did = answers_price sys None price new reply tt waits ready did

  -- ---- whole answers

  -- what was done so far, at the relay as it is then
  ready_by : (sys : System) (r : RelayValue) (reply : Outs) (m : Moves sys r reply) → Ready m.new
  ready_by sys r reply m = record { price = subst (λ (q : RelayValue). IsOfPrice m.new c q.answered q.index) (sym m.is) m.held; has = m.has }

  says_if : (sys : System) (test : Bool) (bytes : List ℕ) → Ready sys → Moves sys (sys.relays c) (cond test (Says bytes ∷ []) [])
  says_if sys test bytes ready =
      either (λ (l : Outs). Moves sys (sys.relays c) l) test (Says bytes ∷ []) [] (λ e. says sys bytes ready) (λ e. stays sys ready)

  some_last : (n : ℕ) → not (eqb n 0) ≡ true → 1 ≤ n
  some_last n e = elim (cases_Bool (eqb n 0)) [
    | inl zero ↦ absurd (both_ways (not (eqb n 0)) (ap not zero) e)
    | inr some ↦ omega (arith, λ (z : n ≡ 0). both_ways (eqb n 0) some (eq-eqb n 0 z))
  ]

  again_if : (sys : System) (test : Bool) → Ready sys →
      Moves sys (sys.relays c) (cond (test && not (eqb (sys.relays c).gathered.window.last 0)) (bid_outs (sys.relays c)) [])
  again_if sys test ready =
      either (λ (l : Outs). Moves sys (sys.relays c) l) (test && not (eqb (sys.relays c).gathered.window.last 0)) (bid_outs (sys.relays c)) []
      (λ e. again sys ready (some_last (sys.relays c).gathered.window.last (and_parts test (not (eqb (sys.relays c).gathered.window.last 0)) e).1))
      (λ e. stays sys ready)

  -- first these moves, and then those of the relay as it is after them
  goes_on : (sys : System) (r : RelayValue) (reply : Outs) (m : Moves sys r reply) (more : RelayValue → Outs) →
      Moves m.new (m.new.relays c) (more (m.new.relays c)) → Moves sys r (reply ++ more r)
  goes_on sys r reply m more then =
      then_both sys r r reply (more r) m (subst (λ (q : RelayValue). Moves m.new q (more q)) m.is then) (same_self r)

  looks_learnt : (r learnt : RelayValue) (place number : ℕ) (demand : Option (List ℤ)) → LooksForRecord (with_child_bid r place number demand) learnt →
      SameNumbers r learnt
  looks_learnt r learnt place number demand looks =
      let same = looks_same (with_child_bid r place number demand) learnt looks in
      record { last = same.0.last; recorded = same.0.recorded; rises = same.0.rises }

  -- what was stored before may stay
  kept_over : (sys : System) (r : RelayValue) (reply : Outs) (m : Moves sys r reply) → SameNumbers (sys.relays c) r → (stored : StoredRelay) →
      IsRelayKept p numbering sys c stored → IsRelayKept p numbering m.new c stored
  kept_over sys r reply m same stored kept =
      kept_stays p numbering c sys m.new m.only (subst (λ (q : RelayValue). SameNumbers (sys.relays c) q) (sym m.is) same) stored kept

  -- what follows of moves and of the price that waits after them
  ends : (sys : System) (r : RelayValue) (first : Outs) (m : Moves sys r first) (waiting : Option PriceUpdate) (after : WaitingRelay) (more : Outs) →
      IfSome waiting (UpdateWasSent sys c) → WritesWaiting own waiting r after more → (reply : Outs) → reply ≡ first ++ more →
      ((stored : StoredRelay) → IsRelayKept p numbering sys c stored → IsRelayKept p numbering m.new c stored) ⊎ BeginsWithResume first →
      RelayFollows lists p numbering Lets sys c after reply
  unfolding then_both
  ends sys r first m waiting after more waits did reply is begins =
      let tried : Tried m.new after more = tries m.new waiting after more (still_waits c sys m.new m.only waiting waits) (ready_by sys r first m)
      (subst (λ (q : RelayValue). WritesWaiting own waiting q after more) (sym m.is) did) in
      let same : SameNumbers r after.relay = subst (λ (q : RelayValue). SameNumbers q after.relay) m.is tried.same in
      let all : Moves sys after.relay (first ++ more) = then_both sys r after.relay first more m tried.moves same in
      subst (λ (l : Outs). RelayFollows lists p numbering Lets sys c after l) (sym is) (record {
        calls = all.calls;
        new = all.new;
        runs = all.runs;
        only = all.only;
        up = all.up;
        stands = record { relay_is = sym all.is; waiting = tried.waiting; held = all.held };
        sent = all.sent;
        kept = all.kept;
        first = elim begins [
          | inl stays ↦ inl (λ stored kept. kept_over m.new after.relay more tried.moves tried.same stored (stays stored kept))
          | inr resume ↦ inr (begins_more first more resume)
        ];
      })

  -- ---- the start of a life

  -- a relay that came back, and learnt the limits that it was given last
  record Learnt (sys : System) (after : WaitingRelay) (reply : Outs) : Type 0 where
    moves : Moves sys after.relay reply
    waiting : after.waiting ≡ None
    same : SameNumbers (sys.relays c) after.relay

  kept_learnt : (giver : Option ℕ) (sys : System) → Ready sys → (stored : StoredRelay) (after : WaitingRelay) (reply : Outs) →
      ((place : ℕ) → giver ≡ Some place → 0 < child_number stored.numbers (sender_place place) →
      CarriesLimits lists p numbering sys c place (child_number stored.numbers (sender_place place)) stored.limits) →
      WritesKept giver own (record { relay = sys.relays c; waiting = None }) stored after reply → Learnt sys after reply
  kept_learnt None sys ready stored after reply carries did =
      subst₂ (λ (a : WaitingRelay) (l : Outs). Learnt sys a l) (sym did.0) (sym did.1)
      (record { moves = stays sys ready; waiting = refl; same = same_self (sys.relays c) })
  kept_learnt (Some giver) sys ready stored after reply carries (inl none) =
      subst₂ (λ (a : WaitingRelay) (l : Outs). Learnt sys a l) (sym none.1.0) (sym none.1.1)
      (record { moves = stays sys ready; waiting = refl; same = same_self (sys.relays c) })
  kept_learnt (Some giver) sys ready stored after reply carries (inr some) =
      let did = some.1 in
      let number : ℕ = child_number stored.numbers (sender_place giver) in
      let kept : ℕ = kept_number (sys.relays c).gathered.cache (sender_place giver) in
      let learnt : Moves sys did.learnt [] = learns_limits sys giver number stored.limits (carries giver refl some.0) did.learnt did.looks ready in
      let said : Moves sys did.learnt (receipt_outs kept giver number) = goes_on sys did.learnt [] learnt (λ r. receipt_outs kept giver number)
      (says_if learnt.new (leb number kept) (answer_bytes (Rattle.pm_wire.specs.declared.answer.Reply.TheVariants.Old giver kept))
      (ready_by sys did.learnt [] learnt)) in
      let first : Outs = receipt_outs kept giver number ++ bid_again_outs (sys.relays c) did.learnt in
      let told : Moves sys did.learnt first = goes_on sys did.learnt (receipt_outs kept giver number) said (λ r. bid_again_outs (sys.relays c) r)
      (again_if said.new (eqb (sys.relays c).gathered.window.last 0) (ready_by sys did.learnt (receipt_outs kept giver number) said)) in
      let is : reply ≡ first = did.replied
      ∙ ap (λ (l : Outs). receipt_outs kept giver number ++ (bid_again_outs (sys.relays c) did.learnt ++ l)) did.tries.1
      ∙ ap (λ (l : Outs). receipt_outs kept giver number ++ l) (append-nil (bid_again_outs (sys.relays c) did.learnt)) in
      subst₂ (λ (a : WaitingRelay) (l : Outs). Learnt sys a l) (sym did.tries.0) (sym is) (record {
        moves = told;
        waiting = refl;
        same = (limits_same (sys.relays c) did.learnt (sender_place giver) number stored.limits did.looks).0;
      })

  learnt_keeps : (sys : System) (after : WaitingRelay) (reply : Outs) → Learnt sys after reply → LearnsKept lists p numbering Lets sys c after reply
  learnt_keeps sys after reply l = record {
    follows = record {
      calls = l.moves.calls;
      new = l.moves.new;
      runs = l.moves.runs;
      only = l.moves.only;
      up = l.moves.up;
      stands = record {
        relay_is = sym l.moves.is;
        waiting = subst (λ (w : Option PriceUpdate). IfSome w (UpdateWasSent l.moves.new c)) (sym l.waiting) tt;
        held = l.moves.held;
      };
      sent = l.moves.sent;
      kept = l.moves.kept;
      first = inl (kept_over sys after.relay reply l.moves l.same);
    };
    keeps = kept_over sys after.relay reply l.moves l.same;
  }

  -- ---- each frame

  module _ (sys : System) (waiting : Option PriceUpdate) (after : WaitingRelay) (reply : Outs) (waits : IfSome waiting (UpdateWasSent sys c))
      (ready : Ready sys) where
    abbrev old : WaitingRelay
    old = record { relay = sys.relays c; waiting = waiting }

    bid_follows : (sender number : ℕ) (demand : Option (List ℤ)) → CarriesBid lists p numbering sys c sender number demand →
        WritesBid own old sender number demand after reply → RelayFollows lists p numbering Lets sys c after reply
    bid_follows sender number demand carries did =
        let kept : ℕ = kept_number (sys.relays c).gathered.cache (sender_place sender) in
        let learnt : Moves sys did.learnt [] = learns sys sender number demand carries did.learnt did.looks ready in
        let said : Moves sys did.learnt (receipt_outs kept sender number) = goes_on sys did.learnt [] learnt (λ r. receipt_outs kept sender number)
        (says_if learnt.new (leb number kept) (answer_bytes (Rattle.pm_wire.specs.declared.answer.Reply.TheVariants.Old sender kept))
        (ready_by sys did.learnt [] learnt)) in
        let first : Outs = receipt_outs kept sender number ++ bid_again_outs (sys.relays c) did.learnt in
        let told : Moves sys did.learnt first = goes_on sys did.learnt (receipt_outs kept sender number) said (λ r. bid_again_outs (sys.relays c) r)
        (again_if said.new (eqb (sys.relays c).gathered.window.last 0) (ready_by sys did.learnt (receipt_outs kept sender number) said)) in
        ends sys did.learnt first told waiting after did.waiting_reply waits did.tries reply
        (did.replied ∙ sym (append_assoc (receipt_outs kept sender number) (bid_again_outs (sys.relays c) did.learnt) did.waiting_reply))
        (inl (kept_over sys did.learnt first told (looks_learnt (sys.relays c) did.learnt (sender_place sender) number demand did.looks)))

    limits_follow : (sender number : ℕ) (limits : Limits) → CarriesLimits lists p numbering sys c sender number limits →
        WritesLimits own old sender number limits after reply → RelayFollows lists p numbering Lets sys c after reply
    limits_follow sender number limits carries did =
        let kept : ℕ = kept_number (sys.relays c).gathered.cache (sender_place sender) in
        let learnt : Moves sys did.learnt [] = learns_limits sys sender number limits carries did.learnt did.looks ready in
        let said : Moves sys did.learnt (receipt_outs kept sender number) = goes_on sys did.learnt [] learnt (λ r. receipt_outs kept sender number)
        (says_if learnt.new (leb number kept) (answer_bytes (Rattle.pm_wire.specs.declared.answer.Reply.TheVariants.Old sender kept))
        (ready_by sys did.learnt [] learnt)) in
        let first : Outs = receipt_outs kept sender number ++ bid_again_outs (sys.relays c) did.learnt in
        let told : Moves sys did.learnt first = goes_on sys did.learnt (receipt_outs kept sender number) said (λ r. bid_again_outs (sys.relays c) r)
        (again_if said.new (eqb (sys.relays c).gathered.window.last 0) (ready_by sys did.learnt (receipt_outs kept sender number) said)) in
        ends sys did.learnt first told waiting after did.waiting_reply waits did.tries reply
        (did.replied ∙ sym (append_assoc (receipt_outs kept sender number) (bid_again_outs (sys.relays c) did.learnt) did.waiting_reply))
        (inl (kept_over sys did.learnt first told
        (limits_same (sys.relays c) did.learnt (sender_place sender) number limits did.looks).0))

    send_follows : WritesSend own old after reply → RelayFollows lists p numbering Lets sys c after reply
    send_follows did = elim did.answers [
      | inl sent ↦
          let first : Outs = Keeps (stored_relay own did.asked) ∷ bid_outs did.asked in
          ends sys did.asked first (sends sys did.asked sent.0 sent.1 ready) waiting after did.waiting_reply waits did.tries reply
          (did.replied ∙ ap (λ (l : Outs). l ++ did.waiting_reply) sent.2) (inr (stored_relay own did.asked, bid_outs did.asked, refl))
      | inr refused ↦
          let first : Outs = Says (answers.not_sent_reply refused.0) ∷ [] in
          let m : Moves sys did.asked first =
          subst (λ (r : RelayValue). Moves sys r first) (sym refused.2) (says sys (answers.not_sent_reply refused.0) ready) in
          ends sys did.asked first m waiting after did.waiting_reply waits did.tries reply
          (did.replied ∙ ap (λ (l : Outs). l ++ did.waiting_reply) refused.3)
          (inl (kept_over sys did.asked first m
          (subst (λ (r : RelayValue). SameNumbers (sys.relays c) r) (sym refused.2) (same_self (sys.relays c)))))
    ]

    price_follows : (price : PriceUpdate) → UpdateWasSent sys c price → WritesPrice own old price after reply →
        RelayFollows lists p numbering Lets sys c after reply
    price_follows price at did =
        let t : Tried sys after reply = answers_price sys waiting price after reply waits at ready did in
        record {
          calls = t.moves.calls;
          new = t.moves.new;
          runs = t.moves.runs;
          only = t.moves.only;
          up = t.moves.up;
          stands = record { relay_is = sym t.moves.is; waiting = t.waiting; held = t.moves.held };
          sent = t.moves.sent;
          kept = t.moves.kept;
          first = inl (kept_over sys after.relay reply t.moves t.same);
        }

    silent_follows : after ≡ old → reply ≡ [] → RelayFollows lists p numbering Lets sys c after reply
    silent_follows same none = subst (λ (l : Outs). RelayFollows lists p numbering Lets sys c after l) (sym none) (record {
      calls = [];
      new = sys;
      runs = refl;
      only = still c sys;
      up = λ x. tt;
      stands = subst (λ (r : WaitingRelay). RelayStands sys c r) (sym same) (record { relay_is = refl; waiting = waits; held = ready.price });
      sent = tt;
      kept = tt;
      first = inl (λ stored kept. kept);
    })

    -- it says something alone
    says_follows : (said : List ℕ) → after ≡ old → reply ≡ Says said ∷ [] → RelayFollows lists p numbering Lets sys c after reply
    says_follows said same is = subst (λ (l : Outs). RelayFollows lists p numbering Lets sys c after l) (sym is) (record {
      calls = [];
      new = sys;
      runs = refl;
      only = still c sys;
      up = λ x. tt;
      stands = subst (λ (r : WaitingRelay). RelayStands sys c r) (sym same) (record { relay_is = refl; waiting = waits; held = ready.price });
      sent = (tt, tt);
      kept = (tt, tt);
      first = inl (λ stored kept. kept);
    })

    bounded_follows : (sender number : ℕ) (demand : List ℤ) → CarriesBid lists p numbering sys c sender number (Some demand) →
        (bounds : List Limits) → WritesBounded own bounds old sender number demand after reply → RelayFollows lists p numbering Lets sys c after reply
    bounded_follows sender number demand carries bounds (inl did) = bid_follows sender number (Some demand) carries did.1
    bounded_follows sender number demand carries bounds (inr did) = says_follows (too_much_bytes sender number) did.1.0 did.1.1

    told_follows : (price : PriceUpdate) (basis : BasisValue) → UpdateWasSent sys c price → WritesTold own old price basis after reply →
        RelayFollows lists p numbering Lets sys c after reply
    told_follows price basis at (inl did) = price_follows price at did.1
    told_follows price basis at (inr did) = says_follows (other_basis_bytes price.number price.index) did.1.0 did.1.1

    given_follows : (giver : Option ℕ) (number : ℕ) (limits : Limits) →
        ((place : ℕ) → giver ≡ Some place → CarriesLimits lists p numbering sys c place number limits) →
        WritesGiven giver own old number limits after reply → RelayFollows lists p numbering Lets sys c after reply
    given_follows None number limits carries did = silent_follows did.0 did.1
    given_follows (Some giver) number limits carries did = limits_follow giver number limits (carries giver refl) did

    -- a child is let go: two calls of the system, as a law of systems says
    module _ (two_calls : ExpiringIsTwoCalls) where
      abbrev number_at : ℕ → ℕ → ℕ
      number_at y k = parents_number (known_number (sys.relays y).recorded (sys.relays y).gathered.cache.heads k)

      lets_go : (sender : ℕ) → (carries : CarriesExpire lists p numbering c sender (number_at c (sender_place sender))) →
          Lets carries.x (number_at c (sender_place sender)) → (learnt : RelayValue) →
          LooksForRecord (with_child_bid (sys.relays c) (sender_place sender) (number_at c (sender_place sender)) None) learnt → Moves sys learnt []
      lets_go sender carries lets learnt looks =
          let d : ℕ = carries.x in
          let number : ℕ = number_at c (sender_place sender) in
          let bid : BidMessage = bid_message number true (zeros p.steps) in
          let mid : System = with_bid_sent sys d bid in
          let new : System = with_relay mid c learnt in
          let place_is : sender_place sender ≡ numbering.place d = omega (arith, carries.sender_is) in
          let at_place : LooksForRecord (with_child_bid (sys.relays c) (numbering.place d) number None) learnt =
          subst (λ (k : ℕ). LooksForRecord (with_child_bid (sys.relays c) k number None) learnt) place_is looks in
          let two = two_calls lists p numbering ready.has.0 sys new d market ready.has.1 (record {
            below = λ e. relay_no_root lists c conc (sym carries.up ∙ e);
            number = number;
            number_is = ap (λ (k : ℕ). number_at c k) place_is ∙ ap (λ (y : ℕ). number_at y (numbering.place d)) (sym carries.up);
            may = carries.may;
            passes = subst (λ (y : ℕ). LimitsPassBy p y d) (sym carries.up) (carries.passes (relay_no_root lists c conc));
            relay = learnt;
            gone = subst (λ (y : ℕ). LooksForRecord (with_child_bid (sys.relays y) (numbering.place d) number None) learnt) (sym carries.up) at_place;
            new_is = ap (λ (y : ℕ). with_relay mid y learnt) (sym carries.up);
          }) in
          let moved : OnlyMoves c sys new = then_moves c sys mid new (bid_pushed sys c d bid) (relay_moved mid c learnt) in
          let looked = looks_same (with_child_bid (sys.relays c) (sender_place sender) number None) learnt looks in
          record {
            calls = call.Expires d number ∷ call.TakesBid d two.place ∷ [];
            new = new;
            runs = two.runs;
            has = has_then sys new (call.Expires d number ∷ call.TakesBid d two.place ∷ []) two.runs ready.has;
            up = λ x. (lets, (tt, tt));
            only = moved;
            is = updated_same sys.relays c learnt;
            held = of_price_stays c sys new moved c learnt.answered learnt.index (subst₂ (IsOfPrice sys c) (sym looked.1) (sym looked.2) ready.price);
            sent = tt;
            kept = tt;
          }

      expire_follows : (sender : ℕ) → (carries : CarriesExpire lists p numbering c sender (number_at c (sender_place sender))) →
          Lets carries.x (number_at c (sender_place sender)) → WritesExpire own old sender after
          reply → RelayFollows lists p numbering Lets sys c after reply
      expire_follows sender carries lets did =
          let learnt : Moves sys did.learnt [] = lets_go sender carries lets did.learnt did.looks in
          let first : Outs = bid_again_outs (sys.relays c) did.learnt in
          let told : Moves sys did.learnt first = goes_on sys did.learnt [] learnt (λ r. bid_again_outs (sys.relays c) r)
          (again_if learnt.new (eqb (sys.relays c).gathered.window.last 0) (ready_by sys did.learnt [] learnt)) in
          ends sys did.learnt first told waiting after did.waiting_reply waits did.tries reply did.replied
          (inl (kept_over sys did.learnt first told
          (looks_learnt (sys.relays c) did.learnt (sender_place sender) (number_at c (sender_place sender)) None did.looks)))

      -- all frames of a relay that runs
      frame_follows : (frame : RelayFrame) → ((d n : ℕ) → RelayLets lists numbering sys c frame d n → Lets d n) →
          RelayMayRead lists p numbering own sys c frame → (bounds : List Limits) → WritesRelay own bounds old frame after reply →
          RelayFollows lists p numbering Lets sys c after reply
      frame_follows (Child (Hello basis)) allows may bounds did = silent_follows did.0 did.1
      frame_follows (Child (Bid sender number demand)) allows may bounds did = bounded_follows sender number demand may bounds did
      frame_follows (Child (Gone sender number)) allows may bounds did = bid_follows sender number None may did
      frame_follows (Child Clear) allows may bounds did = silent_follows did.0 did.1
      frame_follows (Parent (Price child number index step basis)) allows may bounds did =
          told_follows (record { step = step; number = number; index = index }) basis (may.1.0, may.1.1, ap update_of may.1.2) did
      frame_follows (Parent (Old child kept)) allows may bounds did = silent_follows did.0 did.1
      frame_follows Send allows may bounds did = send_follows did
      frame_follows (Expire sender) allows may bounds did =
          expire_follows sender may (allows may.x (number_at c (sender_place sender)) (may.up, may.sender_is, refl)) did
      frame_follows (given.Limits number limits) allows may bounds did = given_follows own.terms.giver number limits may did
      frame_follows (Bound sender bound) allows may bounds did = silent_follows did.0 did.1
      frame_follows (Resume stored) allows may bounds did = absurd may

-- What a relay's service answers to a frame is some calls of its node.
pub relay_answers : RunsGoOn → ExpiringIsTwoCalls →
    (lists : Lists) (p : Pricing) (numbering : Numbering) (before : List NodeCall) (sys : System) (c : ℕ) →
    IsTreeMarket lists p numbering → RunsTheMarket lists p numbering before sys → IsConcentrator lists c → (own : RelaySetup)
    (bounds : List Limits) (old after : WaitingRelay) (frame : RelayFrame) (outs : List (Output StoredRelay)) →
    RelayStands sys c old → RelayMayRead lists p numbering own sys c frame → WritesRelay own bounds old frame after outs →
    RelayFollows lists p numbering (RelayLets lists numbering sys c frame) sys c after outs
relay_answers goes two lists p numbering before sys c market has conc own bounds old after frame outs stands may did =
    frame_follows (RelayLets lists numbering sys c frame) lists p numbering c conc market goes own sys old.waiting after outs stands.waiting
    (record { price = subst (λ (r : RelayValue). IsOfPrice sys c r.answered r.index) stands.relay_is stands.held; has = (before, has) }) two frame
    (λ d n lets. lets) may bounds
    (subst (λ (r : RelayValue). WritesRelay own bounds (record { relay = r; waiting = old.waiting }) frame after outs) stands.relay_is did)

-- A relay that came back learns the limits that it was given.
pub relay_learns_kept : RunsGoOn → (lists : Lists) (p : Pricing) (numbering : Numbering) (before : List NodeCall) (sys : System) (c : ℕ) →
    IsTreeMarket lists p numbering → RunsTheMarket lists p numbering before sys → IsConcentrator lists c → (own : RelaySetup) (relay : RelayValue) →
    RelayStands sys c (record { relay = relay; waiting = None }) →
    (giver : Option ℕ) (stored : StoredRelay) (after : WaitingRelay) (outs : List (Output StoredRelay)) →
    ((place : ℕ) → giver ≡ Some place → 0 < child_number stored.numbers (sender_place place) →
    CarriesLimits lists p numbering sys c place (child_number stored.numbers (sender_place place)) stored.limits) →
    WritesKept giver own (record { relay = relay; waiting = None }) stored after outs → LearnsKept lists p numbering lets_none sys c after outs
relay_learns_kept goes lists p numbering before sys c market has conc own relay stands giver stored after outs carries did =
    learnt_keeps lets_none lists p numbering c conc market goes own sys after outs
    (kept_learnt lets_none lists p numbering c conc market goes own giver sys
    (record { price = subst (λ (r : RelayValue). IsOfPrice sys c r.answered r.index) stands.relay_is stands.held; has = (before, has) })
    stored after outs carries
    (subst (λ (r : RelayValue). WritesKept giver own (record { relay = r; waiting = None }) stored after outs) stands.relay_is did))

-- The value of a relay: what a call keeps of its newest bid, its numbers and its prices, and so of what is stored.
use Rattle.std.proofs.Common.{◌≡◌, ◌∙◌, sym, ap, subst, ℕ, ◌≤◌, ltb}
use Rattle.std.proofs.Common.{List, Some, None, refl, inl, inr, arith}
use Rattle.pm_market.specs.Lists.{Lists, IsConcentrator}
use Rattle.pm_session.specs.declared.price.PriceUpdate.{PriceUpdate}
use Rattle.pm_cache.specs.Cache.{kept_number}
use Rattle.pm_net.specs.Pricing.{Pricing}
use Rattle.pm_net.specs.Messages.{PriceMessage}
use Rattle.pm_net.proofs.Messages.{either}
use Rattle.pm_net_plan.specs.Places.{Numbering}
use Rattle.pm_relay.specs.Relays as relays
use Rattle.pm_relay.specs.Relays.{RelayValue, newest_bid_number, record_at, with_child_bid, with_new_limits, limits_of_number, LooksForRecord, BidSent}
use Rattle.pm_relay.specs.declared.outcome.PriceOutcome.{PriceOutcome}
use Rattle.pm_relay.specs.declared.outcome.PriceOutcome.TheVariants.{PassedOn, Alone, Waits, Dropped}
use Rattle.pm_base.specs.declared.limits.Limits.{Limits}
use Rattle.pm_net.specs.Messages.{numbers_of}
use Rattle.pm_net.specs.Devices.{start_devices, devices_after}
use Rattle.pm_relay_net.proofs.Matching.{recorded_at}
use Rattle.pm_relay_net.specs.RelayIs.{update_of}
use Rattle.pm_frames.specs.Stored.{StoredRelay}
use Rattle.pm_services.specs.RelaySetups.{RelaySetup}
use Rattle.pm_services.specs.RelayWrites.{stored_relay}
use Rattle.pm_system.specs.System.{System}
use Rattle.pm_system.specs.Given.{IsTreeMarket}
use Rattle.pm_system.specs.Market.{RunsTheMarket}
use Rattle.pm_system.specs.Calls.{NodeCall}
use Rattle.pm_lives.specs.Outputs.{EachKept}
use Rattle.pm_services.specs.Outputs.{Output}
use Rattle.pm_lives.specs.Moves.{OnlyMoves}
use Rattle.pm_lives.specs.RelayLife.{IsOfPrice, UpdateWasSent, IsRelayKept, numbers_in_places}
use Rattle.pm_lives.proofs.Staying.{price_stays, kept_to}

-- ---- the limits of a relay's newest bid

-- those that the numbers in it give
pub under_numbers : (lists : Lists) (p : Pricing) (numbering : Numbering) (market : IsTreeMarket lists p numbering) (calls : List NodeCall) (sys : System) →
    RunsTheMarket lists p numbering calls sys → (c : ℕ) → IsConcentrator lists c →
    p.limits c (numbers_in_places numbering (sys.relays c).recorded) ≡ limits_of_number (sys.relays c) (newest_bid_number (sys.relays c))
under_numbers lists p numbering market calls sys has c conc =
    let net = (devices_after lists p (start_devices p) has.events).net in
    let m = (has.is.relays c conc).matches in
    market.by_nodes.limits_alike c (numbers_in_places numbering (sys.relays c).recorded) (numbers_of (net.records c (net.last_number c)))
    (λ d node leaf up. recorded_at lists p numbering market.places net c (sys.relays c) m d node up)
    ∙ sym m.newest_under ∙ ap (λ (n : ℕ). limits_of_number (sys.relays c) n) (sym m.newest)

-- ---- prices stay those of c

pub of_price_stays : (y : ℕ) (sys new : System) → OnlyMoves y sys new → (c answered index : ℕ) → IsOfPrice sys c answered index →
    IsOfPrice new c answered index
of_price_stays y sys new moves c answered index (inl none) = inl none
of_price_stays y sys new moves c answered index (inr at) =
    let there = price_stays y sys new moves c at.0 at.1 in
    inr (
      at.0,
      there.0,
      ap (λ (q : PriceMessage). q.number) there.1 ∙ at.2,
      ap (λ (q : PriceMessage). q.index) there.1 ∙ at.3,
    )

-- a price that was sent stays sent
pub update_stays : (y : ℕ) (sys new : System) → OnlyMoves y sys new → (c : ℕ) (price : PriceUpdate) → UpdateWasSent sys c price →
    UpdateWasSent new c price
update_stays y sys new moves c price at =
    let there = price_stays y sys new moves c at.0 at.1 in
    (at.0, there.0, ap update_of there.1 ∙ at.2)

-- a price that was sent is one of which a number and an index are kept
pub price_is_of : (sys : System) (c : ℕ) (price : PriceUpdate) → UpdateWasSent sys c price → IsOfPrice sys c price.number price.index
price_is_of sys c price at = inr (at.0, at.1, ap (λ (q : PriceUpdate). q.number) at.2, ap (λ (q : PriceUpdate). q.index) at.2)

-- ---- the value of a relay

-- the relay has the same newest bid and the numbers in it, and a price that is no older
pub record SameNumbers (old new : RelayValue) : Type 0 where
  -- its newest bid has the same number, and is over the same numbers of its children
  pub last : newest_bid_number new ≡ newest_bid_number old
  pub recorded : new.recorded ≡ old.recorded
  -- the newest price that it knows is no older
  pub rises : old.index ≤ new.index

same_then : (a b d : RelayValue) → SameNumbers a b → SameNumbers b d → SameNumbers a d
same_then a b d first then = record {
  last = then.last ∙ first.last;
  recorded = then.recorded ∙ first.recorded;
  rises = omega (arith, first.rises, then.rises);
}

-- a relay has its own newest bid and numbers
pub same_self : (a : RelayValue) → SameNumbers a a
same_self a = record { last = refl; recorded = refl; rises = omega arith }

-- what may be stored of a relay may still be stored once it moved and kept its newest bid and the numbers in it
pub kept_stays : (p : Pricing) (numbering : Numbering) (c : ℕ) (sys new : System) → OnlyMoves c sys new → SameNumbers (sys.relays c) (new.relays c) →
    (stored : StoredRelay) → IsRelayKept p numbering sys c stored → IsRelayKept p numbering new c stored
kept_stays p numbering c sys new moves same stored kept = record {
  last = kept.last ∙ sym same.last;
  numbers = kept.numbers ∙ sym same.recorded;
  limits = kept.limits;
  price = of_price_stays c sys new moves c stored.answered stored.index kept.price;
  older = omega (arith, kept.older, same.rises);
}

-- what these outputs store of relay c may be stored of it
abbrev pub AreKept : Pricing → Numbering → System → ℕ → List (Output StoredRelay) → Type 0
AreKept p numbering sys c outs = EachKept (λ (stored : StoredRelay). IsRelayKept p numbering sys c stored) outs

-- it may still be stored once the relay moved and kept its newest bid and the numbers in it
pub are_kept : (p : Pricing) (numbering : Numbering) (c : ℕ) (sys new : System) → OnlyMoves c sys new → SameNumbers (sys.relays c) (new.relays c) →
    (outs : List (Output StoredRelay)) → AreKept p numbering sys c outs → AreKept p numbering new c outs
are_kept p numbering c sys new moves same outs kept =
    kept_to (λ (stored : StoredRelay). IsRelayKept p numbering sys c stored) (λ (stored : StoredRelay). IsRelayKept p numbering new c stored)
    (kept_stays p numbering c sys new moves same) outs kept

-- what it stores of itself may be stored
pub own_kept : (own : RelaySetup) (p : Pricing) (numbering : Numbering) (sys : System) (c : ℕ) (r : RelayValue) → sys.relays c ≡ r →
    p.limits c (numbers_in_places numbering r.recorded) ≡ limits_of_number r (newest_bid_number r) → IsOfPrice sys c r.answered r.index →
    IsRelayKept p numbering sys c (stored_relay own r)
own_kept own p numbering sys c r is under held = record {
  last = ap newest_bid_number (sym is);
  numbers = ap (λ (q : RelayValue). q.recorded) (sym is);
  limits = under;
  price = held;
  older = omega (arith, ap (λ (q : RelayValue). q.index) is);
}

-- a relay that looks for its record
pub looks_same : (old new : RelayValue) → LooksForRecord old new → SameNumbers old new × (new.answered ≡ old.answered) × (new.index ≡ old.index)
looks_same old new (inl found) = (
  record {
    last = omega (arith, found.1.base, found.1.last, found.0.lost);
    recorded = found.1.recorded;
    rises = omega (arith, found.1.index);
  },
  found.1.answered,
  found.1.index,
)
looks_same old new (inr stays) = (
  record {
    last = ap newest_bid_number stays.1;
    recorded = ap (λ (r : RelayValue). r.recorded) stays.1;
    rises = omega (arith, ap (λ (r : RelayValue). r.index) stays.1);
  },
  ap (λ (r : RelayValue). r.answered) stays.1,
  ap (λ (r : RelayValue). r.index) stays.1,
)

-- one that learns limits
limits_known : (old : RelayValue) (child number : ℕ) (limits : Limits) →
    SameNumbers old (with_new_limits old child number limits) × ((with_new_limits old child number limits).answered ≡ old.answered)
    × ((with_new_limits old child number limits).index ≡ old.index)
limits_known old child number limits =
    either (λ (r : RelayValue). SameNumbers old r × (r.answered ≡ old.answered) × (r.index ≡ old.index))
    (ltb (kept_number old.gathered.cache child) number)
    (record old { gathered = record (with_child_bid old child number None).gathered { limits = Some limits } }) old
    (λ e. (record { last = refl; recorded = refl; rises = omega arith }, refl, refl)) (λ e. (same_self old, refl, refl))

-- one that learns limits, and then looks for its record
pub limits_same : (old new : RelayValue) (child number : ℕ) (limits : Limits) → LooksForRecord (with_new_limits old child number limits) new →
    SameNumbers old new × (new.answered ≡ old.answered) × (new.index ≡ old.index)
limits_same old new child number limits looks =
    let known = limits_known old child number limits in
    let looked = looks_same (with_new_limits old child number limits) new looks in
    (same_then old (with_new_limits old child number limits) new known.0 looked.0, looked.1 ∙ known.1, looked.2 ∙ known.2)

-- one that takes a price
pub takes_same : (old new : RelayValue) (price : PriceUpdate) (outcome : PriceOutcome) → relays.TakesPrice old new price outcome → SameNumbers old new
takes_same old new price Dropped did = record {
  last = ap newest_bid_number did.1;
  recorded = ap (λ (r : RelayValue). r.recorded) did.1;
  rises = omega (arith, ap (λ (r : RelayValue). r.index) did.1);
}
takes_same old new price PassedOn did = record {
  last = omega (arith, did.2.base, did.2.passed.window.last);
  recorded = did.2.recorded;
  rises = omega (arith, did.2.index, did.0.newer);
}
takes_same old new price Waits did = record {
  last = ap newest_bid_number did.3;
  recorded = ap (λ (r : RelayValue). r.recorded) did.3;
  rises = omega (arith, ap (λ (r : RelayValue). r.index) did.3);
}
takes_same old new price Alone did = record {
  last = ap newest_bid_number did.3;
  recorded = ap (λ (r : RelayValue). r.recorded) did.3;
  rises = omega (arith, ap (λ (r : RelayValue). r.index) did.3, did.0.newer);
}

-- the newest price that a relay knows after it read a price was sent to it, if this price and the one before were
pub takes_held : (sys : System) (c : ℕ) (old new : RelayValue) (price : PriceUpdate) (outcome : PriceOutcome) → relays.TakesPrice old new price outcome →
    IsOfPrice sys c old.answered old.index → IsOfPrice sys c price.number price.index → IsOfPrice sys c new.answered new.index
takes_held sys c old new price Dropped did held its =
    subst (λ (r : RelayValue). IsOfPrice sys c r.answered r.index) (sym did.1) held
takes_held sys c old new price PassedOn did held its =
    subst (λ (n : ℕ). IsOfPrice sys c n new.index) (sym did.2.answered) (subst (λ (n : ℕ). IsOfPrice sys c price.number n) (sym did.2.index) its)
takes_held sys c old new price Waits did held its =
    subst (λ (r : RelayValue). IsOfPrice sys c r.answered r.index) (sym did.3) held
takes_held sys c old new price Alone did held its =
    subst (λ (r : RelayValue). IsOfPrice sys c r.answered r.index) (sym did.3) its

-- one that sends
pub sent_last : (old new : RelayValue) (number : ℕ) → BidSent old new number → newest_bid_number new ≡ number
sent_last old new number sent = omega (arith, sent.number, sent.base, sent.made.sent.last)

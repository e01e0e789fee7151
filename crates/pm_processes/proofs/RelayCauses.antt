-- Of the worked answers: what a relay of any values answers, by the cause that it has.
use Rattle.std.proofs.Common.{◌≡◌, ◌∙◌, ap, refl, inl, inr, ℕ}
use Rattle.std.proofs.Common.{◌+◌, ◌-◌, ◌<◌, ◌≤◌, ◌^◌, ℤ, false, arith}
use Rattle.std.proofs.Common.{List, [], ◌∷◌, ◌++◌, append-nil, Option, Some, None, cond, not}
use Rattle.std.specs.Prelude.{unwrap_or}
use Rattle.pm_base.specs.Limits.{window_size}
use Rattle.pm_base.specs.declared.limits.Limits.{Limits}
use Rattle.pm_cache.specs.Cache.{Cache, aggregate_of}
use Rattle.pm_concentrator.specs.Concentrators.{published_heads}
use Rattle.pm_session.specs.declared.price.PriceUpdate.{PriceUpdate}
use Rattle.pm_net.specs.Messages.{bid_message}
use Rattle.pm_wire.specs.declared.frame.Frame.TheVariants.{Bid}
use Rattle.pm_relay.specs.Numbers.{IsCaughtUp}
use Rattle.pm_relay.specs.Relays.{RelayValue, HasChanged, newest_bid_number, limits_of_number, no_limits, unanswered_numbers}
use Rattle.pm_relay.specs.Relays.{with_price, BidSent, NotSent, TakesPrice}
use Rattle.pm_relay.specs.Relays.{IsNewPrice, MayHearRecord, PricePassedOn}
use Rattle.pm_relay.specs.declared.fault.SendFault.{SendFault}
use Rattle.pm_relay.specs.declared.fault.SendFault.TheVariants.{NotCaughtUp, NotChanged, WindowFull, OutOfNumbers}
use Rattle.pm_relay.specs.declared.outcome.PriceOutcome.{PriceOutcome}
use Rattle.pm_relay.specs.declared.outcome.PriceOutcome.TheVariants.{PassedOn, Alone, Waits, Dropped}
use Rattle.pm_frames.specs.Answers.{dropped_bytes, out_of_limits_bytes}
use Rattle.pm_frames.specs.Stored.{StoredRelay}
use Rattle.pm_frames.specs.Terms.{giver_number}
use Rattle.pm_frames.specs.declared.terms.RelayTerms.{RelayTerms}
use Rattle.pm_frames.specs.declared.relay.RelayFrame.{RelayFrame}
use Rattle.pm_services.specs.Outputs.{Output, Up, Keeps, Says}
use Rattle.pm_services.specs.RelaySetups.{RelaySetup}
use Rattle.pm_services.specs.RelayWrites.{WaitingRelay, WritesRelay, WritesPrice, WritesTold, WritesAsked, WritesSend}
use Rattle.pm_services.specs.RelayWrites.{bounds_after, relay_bytes, stored_relay, bid_outs, some_within_any, waiting_with, waiting_after}
use Rattle.pm_services.specs.RelayWrites.{drop_outs, down_outs, price_outs, not_sent_reply}
use Rattle.pm_services.specs.RelayAnswers.{OpenRelay, RelayServiceValue}
use Rattle.pm_processes.specs.WorkedAnswers.{serves, RelaySays, RelayTurns}

-- what a relay writes
abbrev pub Outs : Type 0
Outs = List (Output StoredRelay)

-- ---- from what a relay makes of a frame to what its service answers

same_waiting : (a b : WaitingRelay) → a.relay ≡ b.relay → a.waiting ≡ b.waiting → a ≡ b
same_waiting a b one two =
    ap (λ (x : RelayValue). record { relay = x; waiting = a.waiting }) one ∙ ap (λ (x : Option PriceUpdate). record { relay = b.relay; waiting = x }) two

same_open : (a b : OpenRelay) → a.setup ≡ b.setup → a.bounds ≡ b.bounds → a.held ≡ b.held → a ≡ b
same_open a b one two three =
    ap (λ (x : RelaySetup). record { setup = x; bounds = a.bounds; held = a.held }) one
    ∙ (ap (λ (x : List Limits). record { setup = b.setup; bounds = x; held = a.held }) two
    ∙ ap (λ (x : WaitingRelay). record { setup = b.setup; bounds = b.bounds; held = x }) three)

-- a service is its number, its terms and its relay
pub same_service : (a b : RelayServiceValue) → a.child ≡ b.child → a.terms ≡ b.terms → a.relay ≡ b.relay → a ≡ b
same_service a b one two three =
    ap (λ (x : ℕ). record { child = x; terms = a.terms; relay = a.relay }) one
    ∙ (ap (λ (x : RelayTerms). record { child = b.child; terms = x; relay = a.relay }) two
    ∙ ap (λ (x : Option OpenRelay). record { child = b.child; terms = b.terms; relay = x }) three)

-- any answer to a frame has the bytes of what the relay writes
pub says : (old : OpenRelay) (frame : RelayFrame) (bytes : List ℕ) →
    ((new : WaitingRelay) (outs : Outs) → WritesRelay old.setup old.bounds old.held frame new outs → relay_bytes old.setup outs ≡ bytes) →
    RelaySays old frame bytes
says old frame bytes does = record { any = λ new reply a. a.written ∙ does a.writes.0.held a.outs a.writes.2.held }

-- and the service behind it has the relay behind it
pub turns : (old : OpenRelay) (frame : RelayFrame) (bytes : List ℕ) (after : OpenRelay) → old.setup ≡ after.setup →
    bounds_after old.bounds frame ≡ after.bounds →
    ((new : WaitingRelay) (outs : Outs) → WritesRelay old.setup old.bounds old.held frame new outs →
    (relay_bytes old.setup outs ≡ bytes) × (new ≡ after.held)) → RelayTurns old frame bytes after
turns old frame bytes after setup bounds does = record {
  any = λ new reply a.
      let w = a.writes in
      let found = does w.0.held a.outs w.2.held in (
        a.written ∙ found.0,
        same_service new (serves after) (a.child ∙ ap (λ (s : RelaySetup). s.child) setup) (a.terms ∙ ap (λ (s : RelaySetup). s.terms) setup)
            (w.1 ∙ ap (λ (r : OpenRelay). Some r) (same_open w.0 after (w.2.setup ∙ setup) (w.2.bounds ∙ bounds) found.1)),
      );
}

-- the bytes of what was worked out
pub bytes_of : (own : RelaySetup) (outs given : Outs) (bytes : List ℕ) → outs ≡ given →
    relay_bytes own given ≡ bytes → relay_bytes own outs ≡ bytes
bytes_of own outs given bytes same is = ap (λ (l : Outs). relay_bytes own l) same ∙ is

-- ---- a price, by what is done with it

module _ (own : RelaySetup) (old : WaitingRelay) (p : PriceUpdate) (new : WaitingRelay) (outs : Outs) where
  drops_by : (IsNewPrice old.relay p → ⊥) → (outcome : PriceOutcome) → TakesPrice old.relay new.relay p outcome →
      new.waiting ≡ waiting_after old.waiting p outcome → outs ≡ price_outs own old.waiting new.relay p outcome →
      (outs ≡ Says (dropped_bytes p.number p.index) ∷ []) × (new ≡ old)
  drops_by not_new Dropped takes waits replied = (replied, same_waiting new old takes.1 waits)
  drops_by not_new PassedOn takes waits replied = absurd (not_new takes.0)
  drops_by not_new Waits takes waits replied = absurd (not_new takes.0)
  drops_by not_new Alone takes waits replied = absurd (not_new takes.0)

  -- a price that is not new is dropped
  pub it_drops : (IsNewPrice old.relay p → ⊥) → WritesPrice own old p new outs →
      (outs ≡ Says (dropped_bytes p.number p.index) ∷ []) × (new ≡ old)
  it_drops not_new w = drops_by not_new w.outcome w.takes w.waits w.replied

  waits_by : IsNewPrice old.relay p → p.number ≤ old.relay.base → MayHearRecord old.relay p.number → (outcome : PriceOutcome) →
      TakesPrice old.relay new.relay p outcome →
      new.waiting ≡ waiting_after old.waiting p outcome → outs ≡ price_outs own old.waiting new.relay p outcome →
      (outs ≡ drop_outs old.waiting p) × (new ≡ record { relay = old.relay; waiting = waiting_with old.waiting p })
  waits_by is_new lost may Dropped takes waits replied = absurd (takes.0 is_new)
  waits_by is_new lost may PassedOn takes waits replied = absurd (omega (arith, lost, takes.1))
  waits_by is_new lost may Waits takes waits replied =
      (replied, same_waiting new (record { relay = old.relay; waiting = waiting_with old.waiting p }) takes.3 waits)
  waits_by is_new lost may Alone takes waits replied = absurd (takes.2 may)

  -- a new price waits whose record is lost, but may be had again
  pub it_waits : IsNewPrice old.relay p → p.number ≤ old.relay.base → MayHearRecord old.relay p.number → WritesPrice own old p new outs →
      (outs ≡ drop_outs old.waiting p) × (new ≡ record { relay = old.relay; waiting = waiting_with old.waiting p })
  it_waits is_new lost may w = waits_by is_new lost may w.outcome w.takes w.waits w.replied

  alone_by : IsNewPrice old.relay p → p.number ≤ old.relay.base → (MayHearRecord old.relay p.number → ⊥) → (outcome : PriceOutcome) →
      TakesPrice old.relay new.relay p outcome →
      new.waiting ≡ waiting_after old.waiting p outcome → outs ≡ price_outs own old.waiting new.relay p outcome →
      (outs ≡ Keeps (stored_relay own (with_price old.relay p)) ∷ []) × (new ≡ record { relay = with_price old.relay p; waiting = old.waiting })
  alone_by is_new lost never Dropped takes waits replied = absurd (takes.0 is_new)
  alone_by is_new lost never PassedOn takes waits replied = absurd (omega (arith, lost, takes.1))
  alone_by is_new lost never Waits takes waits replied = absurd (never takes.2)
  alone_by is_new lost never Alone takes waits replied = (
    replied ∙ ap (λ (r : RelayValue). Keeps (stored_relay own r) ∷ []) takes.3,
    same_waiting new (record { relay = with_price old.relay p; waiting = old.waiting }) takes.3 waits,
  )

  -- a new price whose record is lost for good is taken alone
  pub is_alone : IsNewPrice old.relay p → p.number ≤ old.relay.base → (MayHearRecord old.relay p.number → ⊥) → WritesPrice own old p new outs →
      (outs ≡ Keeps (stored_relay own (with_price old.relay p)) ∷ []) × (new ≡ record { relay = with_price old.relay p; waiting = old.waiting })
  is_alone is_new lost never w = alone_by is_new lost never w.outcome w.takes w.waits w.replied

  passes_by : IsNewPrice old.relay p → old.relay.base < p.number → (outcome : PriceOutcome) → TakesPrice old.relay new.relay p outcome →
      outs ≡ price_outs own old.waiting new.relay p outcome →
      (outs ≡ down_outs new.relay p ++ Keeps (stored_relay own new.relay) ∷ []) × PricePassedOn old.relay new.relay p
  passes_by is_new has Dropped takes replied = absurd (takes.0 is_new)
  passes_by is_new has PassedOn takes replied = (replied, takes.2)
  passes_by is_new has Waits takes replied = absurd (omega (arith, has, takes.1))
  passes_by is_new has Alone takes replied = absurd (omega (arith, has, takes.1))

  -- a new price whose record the relay has is passed on
  pub it_passes : IsNewPrice old.relay p → old.relay.base < p.number → WritesPrice own old p new outs →
      (outs ≡ down_outs new.relay p ++ Keeps (stored_relay own new.relay) ∷ []) × PricePassedOn old.relay new.relay p
  it_passes is_new has w = passes_by is_new has w.outcome w.takes w.replied

-- a price of the own basis is tried
pub told : (own : RelaySetup) (old : WaitingRelay) (p : PriceUpdate) (new : WaitingRelay) (outs : Outs) → WritesTold own old p own.basis new outs →
    WritesPrice own old p new outs
told own old p new outs (inl did) = did.1
told own old p new outs (inr did) = absurd (did.0 refl)

-- ---- what it keeps

-- what a relay stores, by its parts
abbrev pub stored_by : RelaySetup → ℕ → ℕ → ℕ → Option Limits → List ℕ → StoredRelay
stored_by own last' answered' index' limits' numbers' = record {
  last = last';
  answered = answered';
  index = index';
  basis = own.basis;
  first = own.terms.limits;
  giver = giver_number own.terms.giver;
  limits = unwrap_or limits' no_limits;
  numbers = numbers';
}

-- what is stored of a relay with these parts
pub stored_are : (own : RelaySetup) (r : RelayValue) (last answered index : ℕ) (limits : Option Limits) (numbers : List ℕ) →
    newest_bid_number r ≡ last →
    r.answered ≡ answered → r.index ≡ index → limits_of_number r (newest_bid_number r) ≡ limits → r.recorded ≡ numbers →
    stored_relay own r ≡ stored_by own last answered index limits numbers
stored_are own r last answered index limits numbers one two three four five =
    ap (λ (n : ℕ). stored_by own n r.answered r.index (limits_of_number r (newest_bid_number r)) r.recorded) one
    ∙ (ap (λ (n : ℕ). stored_by own last n r.index (limits_of_number r (newest_bid_number r)) r.recorded) two
    ∙ (ap (λ (n : ℕ). stored_by own last answered n (limits_of_number r (newest_bid_number r)) r.recorded) three
    ∙ (ap (λ (l : Option Limits). stored_by own last answered index l r.recorded) four
    ∙ ap (λ (l : List ℕ). stored_by own last answered index limits l) five)))

-- ---- its bid

-- the answer with a bid, by its parts
abbrev pub bid_by : ℕ → List ℤ → Option Limits → Cache → Outs
bid_by number demand limits cache =
    Up (bid_message number false demand) ∷ cond (some_within_any limits (aggregate_of cache)) [] (Says (out_of_limits_bytes number) ∷ [])

-- what a relay with these parts writes of its bid
pub bid_are : (r : RelayValue) (number : ℕ) (demand : List ℤ) (limits : Option Limits) (cache : Cache) → newest_bid_number r ≡ number →
    r.gathered.announced ≡ Some demand → r.gathered.limits ≡ limits → r.gathered.cache ≡ cache → bid_outs r ≡ bid_by number demand limits cache
bid_are r number demand limits cache one two three four =
    ap (λ (n : ℕ). bid_by n (unwrap_or r.gathered.announced (aggregate_of r.gathered.cache)) r.gathered.limits r.gathered.cache) one
    ∙ (ap (λ (o : Option (List ℤ)). bid_by number (unwrap_or o (aggregate_of r.gathered.cache)) r.gathered.limits r.gathered.cache) two
    ∙ (ap (λ (l : Option Limits). bid_by number demand l r.gathered.cache) three ∙ ap (λ (k : Cache). bid_by number demand limits k) four))

-- ---- the answers to Send: a cause excludes the others, and a Bid

module _ (own : RelaySetup) (old asked : RelayValue) (first : Outs) where
  abbrev pub Refused : SendFault → Type 0
  Refused fault = (first ≡ Says (not_sent_reply fault) ∷ []) × (asked ≡ old)

  abbrev pub Caught : Type 0
  Caught = IsCaughtUp old.recorded old.gathered.cache.heads

  lacks_by : (Caught → ⊥) → (fault : SendFault) → NotSent old fault → asked ≡ old → first ≡ Says (not_sent_reply fault) ∷ [] →
      Refused NotCaughtUp
  lacks_by lacks NotCaughtUp why same said = (said, same)
  lacks_by lacks NotChanged why same said = absurd (lacks why.0)
  lacks_by lacks WindowFull why same said = absurd (lacks why.0)
  lacks_by lacks OutOfNumbers why same said = absurd (lacks why.0)

  -- Send, before it is caught up
  pub lacks : (Caught → ⊥) → WritesAsked own old asked first → Refused NotCaughtUp
  lacks not_yet (inl did) = absurd (not_yet did.1.caught_up)
  lacks not_yet (inr did) = lacks_by not_yet did.0 did.1 did.2 did.3

  still_by : Caught → old.gathered.cache.heads ≡ published_heads old.gathered → (fault : SendFault) → NotSent old fault → asked ≡ old →
      first ≡ Says (not_sent_reply fault) ∷ [] → Refused NotChanged
  still_by caught same_heads NotCaughtUp why same said = absurd (why caught)
  still_by caught same_heads NotChanged why same said = (said, same)
  still_by caught same_heads WindowFull why same said = absurd (why.1 same_heads)
  still_by caught same_heads OutOfNumbers why same said = absurd (why.1 same_heads)

  -- Send, and nothing counted since the last bid
  pub still : Caught → old.gathered.cache.heads ≡ published_heads old.gathered → WritesAsked own old asked first → Refused NotChanged
  still caught same_heads (inl did) = absurd (did.1.made.changed same_heads)
  still caught same_heads (inr did) = still_by caught same_heads did.0 did.1 did.2 did.3

  full_by : Caught → HasChanged old → window_size ≤ unanswered_numbers old → (fault : SendFault) → NotSent old fault → asked ≡ old →
      first ≡ Says (not_sent_reply fault) ∷ [] → Refused WindowFull
  full_by caught moved many NotCaughtUp why same said = absurd (why caught)
  full_by caught moved many NotChanged why same said = absurd (moved why.1)
  full_by caught moved many WindowFull why same said = (said, same)
  full_by caught moved many OutOfNumbers why same said = absurd (omega (arith, many, why.2))

  -- Send, with as many unanswered numbers as the window has places
  pub full : Caught → HasChanged old → window_size ≤ unanswered_numbers old → WritesAsked own old asked first → Refused WindowFull
  full caught moved many (inl did) = absurd (omega (arith, many, did.1.room))
  full caught moved many (inr did) = full_by caught moved many did.0 did.1 did.2 did.3

  -- Send is refused else only if no number is left
  pub out_by : Caught → HasChanged old → unanswered_numbers old < window_size → (fault : SendFault) → NotSent old fault → asked ≡ old →
      first ≡ Says (not_sent_reply fault) ∷ [] → (newest_bid_number old + 1 ≡ 2 ^ 32) × Refused OutOfNumbers
  out_by caught moved room NotCaughtUp why same said = absurd (why caught)
  out_by caught moved room NotChanged why same said = absurd (moved why.1)
  out_by caught moved room WindowFull why same said = absurd (omega (arith, room, why.2))
  out_by caught moved room OutOfNumbers why same said = (why.3, (said, same))

  -- the number of a bid is the next one
  pub number_is : (number : ℕ) → BidSent old asked number → newest_bid_number asked ≡ newest_bid_number old + 1
  number_is number did = omega (arith, did.base, did.made.sent.last)

-- what is answered to Send, if no price waits
pub send_is : (own : RelaySetup) (old : RelayValue) (new : WaitingRelay) (outs : Outs) →
    (w : WritesSend own (record { relay = old; waiting = None }) new outs) → (outs ≡ w.first) × (new ≡ record { relay = w.asked; waiting = None })
send_is own old new outs w = (w.replied ∙ (ap (λ (l : Outs). w.first ++ l) w.tries.1 ∙ append-nil w.first), w.tries.0)

-- a refusal of Send, by its bytes
pub refuses : (own : RelaySetup) (old : RelayValue) (fault : SendFault) (bytes : List ℕ) →
    relay_bytes own (Says (not_sent_reply fault) ∷ []) ≡ bytes →
    ((asked : RelayValue) (first : Outs) → WritesAsked own old asked first → Refused own old asked first fault) → (new : WaitingRelay) (outs : Outs) →
    WritesSend own (record { relay = old; waiting = None }) new outs → (relay_bytes own outs ≡ bytes) × (new ≡ record { relay = old; waiting = None })
refuses own old fault bytes is why new outs w =
    let said = why w.asked w.first w.answers in
    let same = send_is own old new outs w in (
      bytes_of own outs (Says (not_sent_reply fault) ∷ []) bytes (same.0 ∙ said.0) is,
      same.1 ∙ ap (λ (r : RelayValue). record { relay = r; waiting = None }) said.1,
    )

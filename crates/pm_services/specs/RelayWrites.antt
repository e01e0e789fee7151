-- What a relay makes of a frame after Hello, and the frames with which it answers.
use Rattle.std.specs.Prelude.{◌≡◌, ◌⊎◌, ℕ, ◌<◌, ◌≤◌, ◌==◌, ◌&&◌, ◌||◌, not, Bool, true, false, nat_lt}
use Rattle.std.specs.Prelude.{if◌then◌else◌, ℤ, int_le}
use Rattle.std.specs.Prelude.{List, [], ◌∷◌, ◌++◌, length, unwrap_or, Option, Some, None}
use Rattle.pm_base.specs.Limits.{most_nodes}
use Rattle.pm_base.specs.declared.limits.Limits.{Limits}
use Rattle.pm_basis.specs.Prices.{BasisValue}
use Rattle.pm_cache.specs.Cache.{aggregate_of, kept_number}
use Rattle.pm_session.specs.declared.price.PriceUpdate.{PriceUpdate}
use Rattle.pm_concentrator.specs.Concentrators.{own_demand}
use Rattle.pm_concentrator.specs.Limited.{settled_step_of_record}
use Rattle.pm_net.specs.Messages.{BidMessage, bid_message}
use Rattle.pm_wire.specs.Answers.{answer_bytes}
use Rattle.pm_wire.specs.declared.answer.Reply as reply
use Rattle.pm_wire.specs.declared.frame.Frame.TheVariants.{Hello, Bid, Gone, Clear}
use Rattle.pm_relay.specs.Relays.{RelayValue, AreRelayLimits, newest_bid_number, record_at, RelayComesBack, with_child_bid, with_new_limits}
use Rattle.pm_relay.specs.Relays.{limits_of_number, no_limits, LooksForRecord, BidSent, NotSent, TakesPrice}
use Rattle.pm_relay.specs.Numbers.{child_number, known_number, parents_number}
use Rattle.pm_relay.specs.declared.fault.SendFault.{SendFault}
use Rattle.pm_relay.specs.declared.fault.SendFault.TheVariants.{NotCaughtUp, NotChanged, WindowFull, OutOfNumbers}
use Rattle.pm_relay.specs.declared.outcome.PriceOutcome.{PriceOutcome}
use Rattle.pm_relay.specs.declared.outcome.PriceOutcome.TheVariants.{PassedOn, Alone, Waits, Dropped}
use Rattle.pm_frames.specs.Stored.{StoredRelay, relay_resume_bytes}
use Rattle.pm_frames.specs.Answers.{window_full_bytes, not_caught_up_bytes, out_of_numbers_bytes, dropped_bytes}
use Rattle.pm_frames.specs.Answers.{too_much_bytes, other_basis_bytes, out_of_limits_bytes}
use Rattle.pm_frames.specs.Terms.{giver_number}
use Rattle.pm_frames.specs.declared.parent.ParentFrame.TheVariants.{Price, Old}
use Rattle.pm_frames.specs.declared.relay.RelayFrame.{RelayFrame}
use Rattle.pm_frames.specs.declared.relay.RelayFrame.TheVariants.{Child, Parent, Send, Expire, Bound, Resume}
use Rattle.pm_frames.specs.declared.relay.RelayFrame.TheVariants as given
use Rattle.pm_services.specs.Bounds.{with_bound, KeepsBound}
use Rattle.pm_services.specs.Outputs.{Output, Up, Keeps, Says, outputs_bytes}
use Rattle.pm_services.specs.Receipts.{sender_place, receipt_outs, downs}
use Rattle.pm_services.specs.RelaySetups.{RelaySetup}

-- a relay, and the price that waits until the relay has its record again
pub record WaitingRelay : Type 0 where
  pub relay : RelayValue
  pub waiting : Option PriceUpdate

-- ---- what a relay writes of itself

-- what it keeps over a restart
abbrev pub stored_relay : RelaySetup → RelayValue → StoredRelay
stored_relay own r = record {
  last = newest_bid_number r;
  answered = r.answered;
  index = r.index;
  basis = own.basis;
  first = own.terms.limits;
  giver = giver_number own.terms.giver;
  limits = unwrap_or (limits_of_number r (newest_bid_number r)) no_limits;
  numbers = r.recorded;
}

-- whether some demand of a list is within limits
abbrev pub some_within : Limits → List ℤ → Bool
some_within limits [] = false
some_within limits (demand ∷ demands) =
    (int_le limits.floor demand && int_le demand limits.ceiling) || some_within limits demands

abbrev pub some_within_any : Option Limits → List ℤ → Bool
some_within_any None demands = true
some_within_any (Some limits) demands = some_within limits demands

-- whether some step of the sum of what a relay holds is within its limits
abbrev pub has_step_within : RelayValue → Bool
has_step_within r = some_within_any r.gathered.limits (aggregate_of r.gathered.cache)

-- the bytes of what it writes
abbrev pub relay_bytes : RelaySetup → List (Output StoredRelay) → List ℕ
relay_bytes own outs = outputs_bytes relay_resume_bytes own.basis own.child outs

abbrev pub own_bid : RelayValue → BidMessage
own_bid r = bid_message (newest_bid_number r) false (own_demand r.gathered)

-- its newest bid, and behind it that the relay is out of its limits, if no step of its sum is within them
abbrev pub bid_outs : RelayValue → List (Output StoredRelay)
bid_outs r = Up (own_bid r) ∷ (if has_step_within r then [] else Says (out_of_limits_bytes (newest_bid_number r)) ∷ [])

-- this, if it has the record of its newest bid
abbrev pub kept_bid_outs : RelayValue → List (Output StoredRelay)
kept_bid_outs r = if r.gathered.window.last == 0 then [] else bid_outs r

-- a relay that has its record again sends its newest bid again
abbrev pub bid_again_outs : RelayValue → RelayValue → List (Output StoredRelay)
bid_again_outs old new = if old.gathered.window.last == 0 && not (new.gathered.window.last == 0) then bid_outs new else []

-- ---- a price

-- of two prices the one with the greater index waits, and of two with one index the first; the other is dropped
abbrev pub waiting_with : Option PriceUpdate → PriceUpdate → Option PriceUpdate
waiting_with None price = Some price
waiting_with (Some first) price = if nat_lt first.index price.index then Some price else Some first

abbrev pub dropped_with : Option PriceUpdate → PriceUpdate → List ℕ
dropped_with None price = []
dropped_with (Some first) price =
    if nat_lt first.index price.index then dropped_bytes first.number first.index else dropped_bytes price.number price.index

abbrev pub waiting_after : Option PriceUpdate → PriceUpdate → PriceOutcome → Option PriceUpdate
waiting_after waiting price PassedOn = waiting
waiting_after waiting price Alone = waiting
waiting_after waiting price Waits = waiting_with waiting price
waiting_after waiting price Dropped = waiting

abbrev pub drop_outs : Option PriceUpdate → PriceUpdate → List (Output StoredRelay)
drop_outs None price = []
drop_outs (Some first) price = Says (dropped_with (Some first) price) ∷ []

-- the price for each child that was not gone in the record of its number, at the step for which the relay settles by it
abbrev pub down_outs : RelayValue → PriceUpdate → List (Output StoredRelay)
down_outs r price =
    downs price.index (settled_step_of_record (limits_of_number r price.number) price.step (record_at r price.number).sum) 0 (record_at r price.number).heads

-- what is answered to a price, by what the relay did with it: `r` is the relay after it
abbrev pub price_outs : RelaySetup → Option PriceUpdate → RelayValue → PriceUpdate → PriceOutcome → List (Output StoredRelay)
price_outs own waiting r price PassedOn = down_outs r price ++ Keeps (stored_relay own r) ∷ []
price_outs own waiting r price Alone = Keeps (stored_relay own r) ∷ []
price_outs own waiting r price Waits = drop_outs waiting price
price_outs own waiting r price Dropped = Says (dropped_bytes price.number price.index) ∷ []

-- a price from the parent
pub record WritesPrice (own : RelaySetup) (old : WaitingRelay) (price : PriceUpdate) (new : WaitingRelay) (outs : List (Output StoredRelay)) : Type 0 where
  pub outcome : PriceOutcome
  pub takes : TakesPrice old.relay new.relay price outcome
  pub waits : new.waiting ≡ waiting_after old.waiting price outcome
  pub replied : outs ≡ price_outs own old.waiting new.relay price outcome

-- the price that waits, if there is one, is tried again as if it came now
abbrev pub WritesWaiting : RelaySetup → Option PriceUpdate → RelayValue → WaitingRelay → List (Output StoredRelay) → Type 0
WritesWaiting own None relay' new outs = (new ≡ record { relay = relay'; waiting = None }) × (outs ≡ [])
WritesWaiting own (Some price) relay' new outs = WritesPrice own (record { relay = relay'; waiting = None }) price new outs

-- ---- what it learns, and what it is asked

-- a child's Bid or Gone
pub record WritesBid (own : RelaySetup) (old : WaitingRelay) (sender number : ℕ) (demand : Option (List ℤ)) (new : WaitingRelay)
    (outs : List (Output StoredRelay)) : Type 0 where
  -- the relay that learnt it
  pub learnt : RelayValue
  pub looks : LooksForRecord (with_child_bid old.relay (sender_place sender) number demand) learnt
  -- what is answered to the price that waited
  pub waiting_reply : List (Output StoredRelay)
  pub tries : WritesWaiting own old.waiting learnt new waiting_reply
  pub replied : outs ≡
      receipt_outs (kept_number old.relay.gathered.cache (sender_place sender)) sender number ++ (bid_again_outs old.relay learnt ++ waiting_reply)

-- new limits are learnt under their number, as a child's bid is
pub record WritesLimits (own : RelaySetup) (old : WaitingRelay) (sender number : ℕ) (limits : Limits) (new : WaitingRelay)
    (outs : List (Output StoredRelay)) : Type 0 where
  pub learnt : RelayValue
  pub looks : LooksForRecord (with_new_limits old.relay (sender_place sender) number limits) learnt
  pub waiting_reply : List (Output StoredRelay)
  pub tries : WritesWaiting own old.waiting learnt new waiting_reply
  pub replied : outs ≡
      receipt_outs (kept_number old.relay.gathered.cache (sender_place sender)) sender number ++ (bid_again_outs old.relay learnt ++ waiting_reply)

-- a child is let go: it is gone under the number that is the relay's for it
pub record WritesExpire (own : RelaySetup) (old : WaitingRelay) (sender : ℕ) (new : WaitingRelay) (outs : List (Output StoredRelay)) : Type 0 where
  pub learnt : RelayValue
  pub looks : LooksForRecord (with_child_bid old.relay (sender_place sender)
      (parents_number (known_number old.relay.recorded old.relay.gathered.cache.heads (sender_place sender))) None) learnt
  pub waiting_reply : List (Output StoredRelay)
  pub tries : WritesWaiting own old.waiting learnt new waiting_reply
  pub replied : outs ≡ bid_again_outs old.relay learnt ++ waiting_reply

abbrev pub not_sent_reply : SendFault → List ℕ
not_sent_reply NotCaughtUp = not_caught_up_bytes
not_sent_reply NotChanged = answer_bytes reply.TheVariants.NotChanged
not_sent_reply WindowFull = window_full_bytes
not_sent_reply OutOfNumbers = out_of_numbers_bytes

-- the relay sends its bid, with what it keeps over a restart before it, or says why it sends none
abbrev pub WritesAsked : RelaySetup → RelayValue → RelayValue → List (Output StoredRelay) → Type 0
WritesAsked own old new outs =
    ((number : ℕ) × BidSent old new number × (outs ≡ Keeps (stored_relay own new) ∷ bid_outs new))
    ⊎ ((fault : SendFault) × NotSent old fault × (new ≡ old) × (outs ≡ Says (not_sent_reply fault) ∷ []))

pub record WritesSend (own : RelaySetup) (old new : WaitingRelay) (outs : List (Output StoredRelay)) : Type 0 where
  -- the relay that was asked
  pub asked : RelayValue
  pub first : List (Output StoredRelay)
  pub answers : WritesAsked own old.relay asked first
  pub waiting_reply : List (Output StoredRelay)
  pub tries : WritesWaiting own old.waiting asked new waiting_reply
  pub replied : outs ≡ first ++ waiting_reply

-- nothing changes, and nothing is answered
abbrev pub StaysQuiet : WaitingRelay → WaitingRelay → List (Output StoredRelay) → Type 0
StaysQuiet old new outs = (new ≡ old) × (outs ≡ [])

-- nothing changes, and this is said
abbrev pub SaysAlone : WaitingRelay → WaitingRelay → List ℕ → List (Output StoredRelay) → Type 0
SaysAlone old new said outs = (new ≡ old) × (outs ≡ Says said ∷ [])

-- a child's Bid counts if it keeps the child's bound
abbrev pub WritesBounded : RelaySetup → List Limits → WaitingRelay → (sender number : ℕ) → List ℤ → WaitingRelay →
    List (Output StoredRelay) → Type 0
WritesBounded own bounds old sender number demand new outs =
    (KeepsBound bounds sender demand × WritesBid own old sender number (Some demand) new outs)
    ⊎ ((¬ KeepsBound bounds sender demand) × SaysAlone old new (too_much_bytes sender number) outs)

-- a price is taken if it is of the relay's own basis
abbrev pub WritesTold : RelaySetup → WaitingRelay → PriceUpdate → BasisValue → WaitingRelay → List (Output StoredRelay) → Type 0
WritesTold own old price basis new outs =
    ((basis ≡ own.basis) × WritesPrice own old price new outs)
    ⊎ ((¬ (basis ≡ own.basis)) × SaysAlone old new (other_basis_bytes price.number price.index) outs)

-- limits are learnt in the place of the arguments
abbrev pub WritesGiven : Option ℕ → RelaySetup → WaitingRelay → ℕ → Limits → WaitingRelay → List (Output StoredRelay) → Type 0
WritesGiven None own old number limits new outs = StaysQuiet old new outs
WritesGiven (Some giver) own old number limits new outs = WritesLimits own old giver number limits new outs

-- a relay that came back learns the limits that it gave, under the number that their place has in its record, if it was given some
abbrev pub WritesKept : Option ℕ → RelaySetup → WaitingRelay → StoredRelay → WaitingRelay → List (Output StoredRelay) → Type 0
WritesKept None own old stored new outs = StaysQuiet old new outs
WritesKept (Some giver) own old stored new outs =
    ((child_number stored.numbers (sender_place giver) ≡ 0) × StaysQuiet old new outs)
    ⊎ ((0 < child_number stored.numbers (sender_place giver))
    × WritesLimits own old giver (child_number stored.numbers (sender_place giver)) stored.limits new outs)

-- ---- it comes up

-- a relay comes back so, and no price waits
pub record Opens (limits : Limits) (steps last answered index : ℕ) (numbers : List ℕ) (under : Limits) (new : WaitingRelay) : Type 0 where
  pub back : RelayComesBack steps limits last answered index numbers under new.relay
  pub waiting : new.waiting ≡ None

-- a relay comes back with what it gave; its limits of the first start count until it learnt others
pub record WritesResumed (own : RelaySetup) (stored : StoredRelay) (new : WaitingRelay) (outs : List (Output StoredRelay)) : Type 0 where
  pub back : WaitingRelay
  pub opens : Opens own.terms.limits own.basis.steps stored.last stored.answered stored.index stored.numbers stored.limits back
  pub learns : WritesKept own.terms.giver own back stored new outs

-- what a frame that brings it has
pub record HasStored (stored : StoredRelay) : Type 0 where
  pub children : length stored.numbers ≡ most_nodes
  pub answered : stored.answered ≤ stored.last
  pub under : AreRelayLimits stored.limits

-- ---- all frames

-- what a relay after Hello, whose children have these bounds, makes of a frame, and the frames that answer it
abbrev pub WritesRelay : RelaySetup → List Limits → WaitingRelay → RelayFrame → WaitingRelay → List (Output StoredRelay) → Type 0
WritesRelay own bounds old (Child (Hello basis)) new outs = StaysQuiet old new outs
WritesRelay own bounds old (Child (Bid sender number demand)) new outs = WritesBounded own bounds old sender number demand new outs
WritesRelay own bounds old (Child (Gone sender number)) new outs = WritesBid own old sender number None new outs
WritesRelay own bounds old (Child Clear) new outs = StaysQuiet old new outs
WritesRelay own bounds old (Parent (Price child number index step basis)) new outs =
    WritesTold own old (record { step = step; number = number; index = index }) basis new outs
WritesRelay own bounds old (Parent (Old child kept)) new outs = StaysQuiet old new outs
WritesRelay own bounds old Send new outs = WritesSend own old new outs
WritesRelay own bounds old (Expire sender) new outs = WritesExpire own old sender new outs
WritesRelay own bounds old (given.Limits number limits) new outs = WritesGiven own.terms.giver own old number limits new outs
WritesRelay own bounds old (Bound sender bound) new outs = StaysQuiet old new outs
WritesRelay own bounds old (Resume stored) new outs = WritesResumed own stored new outs

-- the bounds of its children after a frame
abbrev pub bounds_after : List Limits → RelayFrame → List Limits
bounds_after bounds (Child frame) = bounds
bounds_after bounds (Parent frame) = bounds
bounds_after bounds Send = bounds
bounds_after bounds (Expire sender) = bounds
bounds_after bounds (given.Limits number limits) = bounds
bounds_after bounds (Bound sender bound) = with_bound bounds sender bound
bounds_after bounds (Resume stored) = bounds

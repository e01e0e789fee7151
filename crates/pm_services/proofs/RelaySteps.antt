-- A relay keeps its steps, whatever it is told.
use Rattle.std.proofs.Common.{◌≡◌, ◌∙◌, ap, refl, ℕ, ℤ, List, Option, None, Some, inl, inr, ltb}
use Rattle.pm_base.specs.declared.limits.Limits.{Limits}
use Rattle.pm_cache.specs.Cache.{Cache, kept_number}
use Rattle.pm_session.specs.declared.price.PriceUpdate.{PriceUpdate}
use Rattle.pm_wire.proofs.Known.{learnt_steps}
use Rattle.pm_relay.specs.Relays.{RelayValue, LooksForRecord, with_child_bid, with_new_limits, TakesPrice}
use Rattle.pm_relay.specs.declared.outcome.PriceOutcome.{PriceOutcome}
use Rattle.pm_relay.specs.declared.outcome.PriceOutcome.TheVariants.{PassedOn, Alone, Waits, Dropped}
use Rattle.pm_frames.proofs.Sizes.{either}
use Rattle.pm_services.specs.RelaySetups.{RelaySetup}
use Rattle.pm_frames.specs.Stored.{StoredRelay}
use Rattle.pm_services.specs.Outputs.{Output}
use Rattle.pm_services.specs.RelayWrites.{WaitingRelay, WritesWaiting, WritesAsked, WritesBid, WritesPrice, WritesLimits, WritesExpire, WritesSend}

-- ---- the steps of a relay stay

-- a relay that looks for its record keeps its steps
looks_steps : (old new : RelayValue) → LooksForRecord old new → new.gathered.cache.steps ≡ old.gathered.cache.steps
looks_steps old new (inl found) = ap (λ (k : Cache). k.steps) found.1.cache
looks_steps old new (inr stays) = ap (λ (r : RelayValue). r.gathered.cache.steps) stays.1

-- so does one that learns a bid
bid_steps : (old new : RelayValue) (child number : ℕ) (demand : Option (List ℤ)) → LooksForRecord (with_child_bid old child number demand) new →
    new.gathered.cache.steps ≡ old.gathered.cache.steps
bid_steps old new child number demand looks =
    looks_steps (with_child_bid old child number demand) new looks ∙ learnt_steps old.gathered.cache child number demand _

-- or limits
limits_steps : (old new : RelayValue) (child number : ℕ) (limits : Limits) → LooksForRecord (with_new_limits old child number limits) new →
    new.gathered.cache.steps ≡ old.gathered.cache.steps
limits_steps old new child number limits looks =
    looks_steps (with_new_limits old child number limits) new looks
    ∙ either (λ (r : RelayValue). r.gathered.cache.steps ≡ old.gathered.cache.steps) (ltb (kept_number old.gathered.cache child) number)
    (record old { gathered = record (with_child_bid old child number None).gathered { limits = Some limits } }) old
    (learnt_steps old.gathered.cache child number None _) refl

-- one that takes a price
price_steps : (old new : RelayValue) (price : PriceUpdate) (outcome : PriceOutcome) → TakesPrice old new price outcome →
    new.gathered.cache.steps ≡ old.gathered.cache.steps
price_steps old new price Dropped takes = ap (λ (r : RelayValue). r.gathered.cache.steps) takes.1
price_steps old new price PassedOn takes = ap (λ (k : Cache). k.steps) takes.2.passed.cache
price_steps old new price Waits takes = ap (λ (r : RelayValue). r.gathered.cache.steps) takes.3
price_steps old new price Alone takes = ap (λ (r : RelayValue). r.gathered.cache.steps) takes.3

-- one that tries the price that waits
tries_steps : (own : RelaySetup) (waiting : Option PriceUpdate) (relay : RelayValue) (new : WaitingRelay) (outs : List (Output StoredRelay)) →
    WritesWaiting own waiting relay new outs →
    new.relay.gathered.cache.steps ≡ relay.gathered.cache.steps
tries_steps own None relay new outs tries = ap (λ (r : WaitingRelay). r.relay.gathered.cache.steps) tries.0
tries_steps own (Some price) relay new outs tries = price_steps relay new.relay price tries.outcome tries.takes

-- and one that is asked for its bid
asked_steps : (own : RelaySetup) (old new : RelayValue) (outs : List (Output StoredRelay)) → WritesAsked own old new outs →
    new.gathered.cache.steps ≡ old.gathered.cache.steps
asked_steps own old new outs (inl sent) = ap (λ (k : Cache). k.steps) sent.1.made.cache
asked_steps own old new outs (inr stays) = ap (λ (r : RelayValue). r.gathered.cache.steps) stays.2

-- ---- so does one that answers

abbrev pub KeepsSteps : WaitingRelay → WaitingRelay → Type 0
KeepsSteps old new = new.relay.gathered.cache.steps ≡ old.relay.gathered.cache.steps

-- a child's Bid or Gone
pub bid_keeps : (own : RelaySetup) (old : WaitingRelay) (sender number : ℕ) (demand : Option (List ℤ)) (new : WaitingRelay)
    (outs : List (Output StoredRelay)) →
    WritesBid own old sender number demand new outs → KeepsSteps old new
bid_keeps own old sender number demand new outs answers =
    tries_steps own old.waiting answers.learnt new answers.waiting_reply answers.tries ∙ bid_steps old.relay answers.learnt _ number demand answers.looks

-- a price
pub price_keeps : (own : RelaySetup) (old : WaitingRelay) (price : PriceUpdate) (new : WaitingRelay) (outs : List (Output StoredRelay)) →
    WritesPrice own old price new outs → KeepsSteps old new
price_keeps own old price new outs answers = price_steps old.relay new.relay price answers.outcome answers.takes

-- limits
pub limits_keep : (own : RelaySetup) (old : WaitingRelay) (sender number : ℕ) (limits : Limits) (new : WaitingRelay) (outs : List (Output StoredRelay)) →
    WritesLimits own old sender number limits new outs → KeepsSteps old new
limits_keep own old sender number limits new outs answers =
    tries_steps own old.waiting answers.learnt new answers.waiting_reply answers.tries ∙ limits_steps old.relay answers.learnt _ number limits answers.looks

-- Expire
pub expire_keeps : (own : RelaySetup) (old : WaitingRelay) (sender : ℕ) (new : WaitingRelay) (outs : List (Output StoredRelay)) →
    WritesExpire own old sender new outs → KeepsSteps old new
expire_keeps own old sender new outs answers =
    tries_steps own old.waiting answers.learnt new answers.waiting_reply answers.tries ∙ bid_steps old.relay answers.learnt _ _ None answers.looks

-- Send
pub send_keeps : (own : RelaySetup) (old new : WaitingRelay) (outs : List (Output StoredRelay)) → WritesSend own old new outs → KeepsSteps old new
send_keeps own old new outs answers =
    tries_steps own old.waiting answers.asked new answers.waiting_reply answers.tries ∙ asked_steps own old.relay answers.asked answers.first answers.answers

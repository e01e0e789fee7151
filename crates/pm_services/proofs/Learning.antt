-- What a relay answers once it learnt something: its receipt, its newest bid if it has the record of that again, and what is due for the
-- price that waits.
use Rattle.std.proofs.Common.{◌≡◌, ◌∙◌, sym, ap, subst, ℕ, ◌+◌, ◌≤◌, Bool, true, false, not, ◌&&◌, cond, eqb}
use Rattle.std.proofs.Common.{ltb, List, [], ◌∷◌, ◌++◌}
use Rattle.std.proofs.Common.{length, Option, Some, None, inl, inr, arith, refl, length-append, append-nil}
use Rattle.std.proofs.lemmas.Bool.{true≢false}
use Rattle.pm_session.specs.declared.price.PriceUpdate.{PriceUpdate}
use Rattle.pm_relay.specs.Relays.{RelayValue, BidSent, NotSent, TakesPrice}
use Rattle.pm_relay.specs.declared.fault.SendFault.{SendFault}
use Rattle.pm_relay.specs.declared.outcome.PriceOutcome.{PriceOutcome}
use Rattle.pm_frames.specs.Answers.{dropped_bytes}
use Rattle.pm_frames.specs.Stored.{StoredRelay, relay_resume_bytes, relay_resume_size}
use Rattle.pm_services.specs.Limits.{own_bid_limit, price_reply_limit, relay_reply_limit}
use Rattle.pm_services.specs.Outputs.{Output, Keeps}
use Rattle.pm_services.specs.Receipts.{Appended}
use Rattle.pm_services.specs.RelaySetups.{RelaySetup}
use Rattle.pm_services.specs.RelayWrites.{WaitingRelay, relay_bytes, bid_outs, kept_bid_outs, bid_again_outs, WritesWaiting}
use Rattle.pm_services.specs.RelayWrites.{stored_relay, dropped_with, drop_outs, price_outs, waiting_after, not_sent_reply}
use Rattle.pm_services.specs.RelayWrites.{WritesPrice, WritesAsked, WritesSend}
use Rattle.pm_services.proofs.Written.{mapped, few_of, appended_then, answered_then, said_alone, says}

abbrev Outs : Type 0
Outs = List (Output StoredRelay)

again_of : (had none lost : Bool) (outs : Outs) → had ≡ not none → cond had [] (cond lost [] outs) ≡ cond (none && not lost) outs []
again_of true true lost outs e = absurd (true≢false e)
again_of true false lost outs e = refl
again_of false true true outs e = refl
again_of false true false outs e = refl
again_of false false lost outs e = absurd (true≢false (sym e))

module _ (own : RelaySetup) (old : WaitingRelay) (learnt : RelayValue) (new : WaitingRelay) where
  -- the frames behind the receipt
  pub record WritesLearnt (receipt outs : Outs) : Type 0 where
    -- what is answered to the price that waited
    pub waiting_reply : Outs
    pub tries : WritesWaiting own old.waiting learnt new waiting_reply
    -- the bid again, and then that, behind the receipt
    pub replied : outs ≡ receipt ++ (bid_again_outs old.relay learnt ++ waiting_reply)

  -- they are appended, one after the other; `had` says whether the relay had its record before
  pub learnt_answered : (had : Bool) (waiting : Option PriceUpdate) (receipt : Outs) (out mid again longer : List ℕ) →
      had ≡ not (eqb old.relay.gathered.window.last 0) → waiting ≡ old.waiting → mid ≡ out ++ relay_bytes own receipt →
      length mid ≤ length out + 7 →
      again ≡ mid ++ relay_bytes own (cond had [] (kept_bid_outs learnt)) → length again ≤ length mid + own_bid_limit →
      Appended (relay_bytes own) (WritesWaiting own waiting learnt new) price_reply_limit again longer →
      Appended (relay_bytes own) (WritesLearnt receipt) relay_reply_limit out longer
  learnt_answered had waiting receipt out mid again longer is_had waits first few_first sent few_sent tried =
      let own_bid : Outs = bid_again_outs old.relay learnt in
      let same : cond had [] (kept_bid_outs learnt) ≡ own_bid =
      again_of had (eqb old.relay.gathered.window.last 0) (eqb learnt.gathered.window.last 0) (bid_outs learnt) is_had in
      let a = tried in
      let two : Outs = own_bid ++ a.outs in
      let all : longer ≡ out ++ relay_bytes own (receipt ++ two) =
      appended_then relay_resume_bytes own.basis own.child receipt two out mid longer first
      (appended_then relay_resume_bytes own.basis own.child own_bid a.outs mid again longer
      (sent ∙ ap (λ (o : Outs). mid ++ relay_bytes own o) same) a.appended) in
      record {
        outs = receipt ++ two;
        writes = record {
          waiting_reply = a.outs;
          tries = subst (λ (w : Option PriceUpdate). WritesWaiting own w learnt new a.outs) waits a.writes;
          replied = refl;
        };
        appended = all;
        few = few_of out longer (relay_bytes own (receipt ++ two)) relay_reply_limit all
            (omega (arith, few_first, few_sent, a.few, ap length a.appended, length-append again (relay_bytes own a.outs)));
      }

-- that one of two prices was dropped
pub drop_written : (own : RelaySetup) (waiting : Option PriceUpdate) (price : PriceUpdate) →
    dropped_with waiting price ≡ relay_bytes own (drop_outs waiting price)
drop_written own None price = refl
drop_written own (Some first) price = said_alone relay_resume_bytes own.basis own.child (dropped_with (Some first) price)

few_of_two : (test : Bool) (x y : List ℕ) (most : ℕ) → length x ≤ most → length y ≤ most → length (cond test x y) ≤ most
few_of_two true x y most few other = few
few_of_two false x y most few other = other

-- at most one Dropped is answered, of nine bytes
pub dropped_few : (waiting : Option PriceUpdate) (price : PriceUpdate) → length (dropped_with waiting price) ≤ 9
dropped_few None price = omega arith
dropped_few (Some first) price =
    few_of_two (ltb first.index price.index) (dropped_bytes first.number first.index) (dropped_bytes price.number price.index) 9 (omega arith) (omega arith)

-- what is answered to a price, by what the relay did with it
pub priced : (own : RelaySetup) (old : WaitingRelay) (price : PriceUpdate) (new : WaitingRelay) (outcome : PriceOutcome) (out longer : List ℕ) →
    TakesPrice old.relay new.relay price outcome → new.waiting ≡ waiting_after old.waiting price outcome →
    longer ≡ out ++ relay_bytes own (price_outs own old.waiting new.relay price outcome) → length longer ≤ length out + price_reply_limit →
    Appended (relay_bytes own) (WritesPrice own old price new) price_reply_limit out longer
priced own old price new outcome out longer takes waits written few = record {
  outs = price_outs own old.waiting new.relay price outcome;
  writes = record { outcome = outcome; takes = takes; waits = waits; replied = refl };
  appended = written;
  few = few_of out longer (relay_bytes own (price_outs own old.waiting new.relay price outcome)) price_reply_limit written few;
}

-- what is kept, behind frames that were written
pub kept_behind : (own : RelaySetup) (stored : StoredRelay) (first : Outs) (out mid longer : List ℕ) → mid ≡ out ++ relay_bytes own first →
    longer ≡ mid ++ relay_resume_bytes stored → longer ≡ out ++ relay_bytes own (first ++ Keeps stored ∷ [])
kept_behind own stored first out mid longer before kept =
    appended_then relay_resume_bytes own.basis own.child first (Keeps stored ∷ []) out mid longer before
    (kept ∙ ap (λ (l : List ℕ). mid ++ l) (sym (append-nil (relay_resume_bytes stored))))

-- ---- a relay that is asked for its bid

module _ (own : RelaySetup) (old new : RelayValue) (out longer : List ℕ) where
  -- what is appended says that the relay sent its bid
  pub sent_answered : (number : ℕ) → BidSent old new number → longer ≡ out ++ relay_bytes own (Keeps (stored_relay own new) ∷ bid_outs new) →
      length longer ≤ length out + (relay_resume_size + own_bid_limit) →
      Appended (relay_bytes own) (WritesAsked own old new) (relay_resume_size + own_bid_limit) out longer
  sent_answered number sent written few = record {
    outs = Keeps (stored_relay own new) ∷ bid_outs new;
    writes = inl (number, sent, refl);
    appended = written;
    few = few_of out longer (relay_bytes own (Keeps (stored_relay own new) ∷ bid_outs new)) (relay_resume_size + own_bid_limit) written few;
  }

  -- or that it sends none, and why
  pub not_sent_answered : (fault : SendFault) → NotSent old fault → new ≡ old → longer ≡ out ++ not_sent_reply fault →
      length (not_sent_reply fault) ≤ 1 →
      Appended (relay_bytes own) (WritesAsked own old new) (relay_resume_size + own_bid_limit) out longer
  not_sent_answered fault why stays written few =
      says relay_resume_bytes own.basis own.child (WritesAsked own old new) (relay_resume_size + own_bid_limit) out longer (not_sent_reply fault) written
      (omega (arith, few)) (inr (fault, why, stays, refl))

-- and behind that what is due for the price that waits
pub asked_then : (own : RelaySetup) (old : WaitingRelay) (asked : RelayValue) (new : WaitingRelay) (waiting : Option PriceUpdate)
    (out mid longer : List ℕ) → waiting ≡ old.waiting →
    Appended (relay_bytes own) (WritesAsked own old.relay asked) (relay_resume_size + own_bid_limit) out mid →
    Appended (relay_bytes own) (WritesWaiting own waiting asked new) price_reply_limit mid longer →
    Appended (relay_bytes own) (WritesSend own old new) relay_reply_limit out longer
asked_then own old asked' new waiting out mid longer waits a tried =
    mapped (relay_bytes own) (WritesSend own old new) (WritesSend own old new) (relay_resume_size + own_bid_limit + price_reply_limit) relay_reply_limit
    out longer (omega arith) (λ outs writes. writes)
    (answered_then relay_resume_bytes own.basis own.child (WritesWaiting own waiting asked' new) (WritesSend own old new) a.outs price_reply_limit
    (relay_resume_size + own_bid_limit) out mid longer a.appended a.few
    (λ outs writes. record {
      asked = asked';
      first = a.outs;
      answers = a.writes;
      waiting_reply = outs;
      tries = subst (λ (w : Option PriceUpdate). WritesWaiting own w asked' new outs) waits writes;
      replied = refl;
    })
    tried)

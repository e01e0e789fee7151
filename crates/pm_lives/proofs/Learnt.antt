-- The limits that a relay holds, those of its newest bid and those that it stores are ones that it was given, under the number in that place.
use Rattle.std.proofs.Common.{◌≡◌, ◌⊎◌, ◌∙◌, sym, ap, subst, subst₂, ℕ, ◌+◌, ◌<◌, ◌%◌, true, false, cond, not, ◌&&◌, eqb}
use Rattle.std.proofs.Common.{leb, ltb, ℤ, List, [], ◌∷◌, ◌++◌, length, get_or, get_or-set_same, get_or-set_other, Option, Some}
use Rattle.std.proofs.Common.{None, unwrap_or, refl, inl, inr, arith}
use Rattle.std.proofs.Math.ListN.{set, length-set}
use Rattle.std.proofs.lemmas.Bool.{cases_lt, leb-true, ltb-true}
use Rattle.std.proofs.lemmas.List.{get_or_past}
use Rattle.pm_base.specs.Limits.{most_nodes}
use Rattle.pm_base.specs.declared.limits.Limits.{Limits}
use Rattle.pm_bid.specs.Heads.{nothing_sent}
use Rattle.pm_bid.specs.declared.head.BidHead.{BidHead}
use Rattle.pm_cache.specs.Cache.{Cache, kept_number, with_gone}
use Rattle.pm_cache.specs.Learning.{after_learning, with_newer_bid}
use Rattle.pm_session.specs.declared.price.PriceUpdate.{PriceUpdate}
use Rattle.pm_concentrator.specs.Limited.{settled_step_of_record}
use Rattle.pm_net.proofs.Messages.{either}
use Rattle.pm_wire.specs.Answers.{answer_bytes}
use Rattle.pm_wire.specs.declared.answer.Reply as reply
use Rattle.pm_wire.specs.declared.frame.Frame.TheVariants.{Hello, Bid, Gone, Clear}
use Rattle.pm_relay.specs.Numbers.{child_number, head_number}
use Rattle.pm_relay.specs.Relays.{RelayValue, newest_bid_number, record_at, limits_of_number, limits_places, no_limits, with_child_bid, with_new_limits}
use Rattle.pm_relay.specs.Relays.{HearsItsRecord, RecordRebuilt, LooksForRecord, BidSent, PricePassedOn, TakesPrice, RelayComesBack, with_price}
use Rattle.pm_relay.specs.declared.outcome.PriceOutcome.{PriceOutcome}
use Rattle.pm_relay.specs.declared.outcome.PriceOutcome.TheVariants.{PassedOn, Alone, Waits, Dropped}
use Rattle.pm_frames.specs.Stored.{StoredRelay}
use Rattle.pm_frames.specs.Answers.{out_of_limits_bytes}
use Rattle.pm_frames.specs.declared.parent.ParentFrame.TheVariants.{Price, Old}
use Rattle.pm_frames.specs.declared.relay.RelayFrame.{RelayFrame}
use Rattle.pm_frames.specs.declared.relay.RelayFrame.TheVariants.{Child, Parent, Send, Expire, Bound, Resume}
use Rattle.pm_frames.specs.declared.relay.RelayFrame.TheVariants as given
use Rattle.pm_services.specs.Receipts.{sender_place}
use Rattle.pm_services.specs.RelaySetups.{RelaySetup}
use Rattle.pm_services.specs.RelayWrites.{WaitingRelay, stored_relay, has_step_within}
use Rattle.pm_lives.specs.Outputs.{EachKept}
use Rattle.pm_services.specs.Outputs.{Output, Keeps, Says}
use Rattle.pm_lives.specs.RelayLife.{PassesGiver}
use Rattle.pm_services.specs.Receipts.{receipt_outs, downs}
use Rattle.pm_services.specs.RelayWrites.{bid_outs, bid_again_outs, drop_outs, price_outs, WritesPrice, WritesWaiting, WritesBid}
use Rattle.pm_services.specs.RelayWrites.{WritesLimits, WritesExpire, WritesSend, WritesAsked, WritesGiven, WritesKept, WritesRelay}
use Rattle.pm_lives.proofs.Staying.{both_kept}
use Rattle.pm_lives.proofs.Downs.{downs_keep_none}

-- `Gave` says which limits were given under a number, and `place` is the place in which the relay is given them
module _ (Gave : ℕ → Limits → Type 0) (place : ℕ) where
  -- if the number is one, these limits were given under it
  abbrev pub WereGiven : ℕ → Option Limits → Type 0
  WereGiven number limits = 0 < number → (l : Limits) × (limits ≡ Some l) × Gave number l

  -- so it is of what a relay holds, and of its newest bid
  pub record HoldsGiven (r : RelayValue) : Type 0 where
    -- its newest bid has a number of each child
    pub children : length r.recorded ≡ most_nodes
    -- the number that it heard is that of the limits that count now
    pub heard : WereGiven (head_number r.gathered.cache.heads place) r.gathered.limits
    -- the number in its newest bid is that of the limits of this bid
    pub recorded : WereGiven (child_number r.recorded place) (limits_of_number r (newest_bid_number r))

  -- and of what is stored
  pub record KeepsGiven (stored : StoredRelay) : Type 0 where
    -- it has a number of each child
    pub children : length stored.numbers ≡ most_nodes
    -- the number in the record is that of the limits beside it
    pub given : 0 < child_number stored.numbers place → Gave (child_number stored.numbers place) stored.limits

  given_as : (n n' : ℕ) (l l' : Option Limits) → n' ≡ n → l' ≡ l → WereGiven n l → WereGiven n' l'
  given_as n n' l l' e1 e2 is =
      subst (λ (k : ℕ). WereGiven k l') (sym e1) (subst (λ (o : Option Limits). WereGiven n o) (sym e2) is)

  none_given : (n : ℕ) (l : Option Limits) → n ≡ 0 → WereGiven n l
  none_given n l none = λ some. absurd (omega (arith, some, none))

  -- ---- the value of a relay

  same_parts : (old new : RelayValue) → new.recorded ≡ old.recorded → new.gathered.cache ≡ old.gathered.cache →
      new.gathered.limits ≡ old.gathered.limits →
      limits_of_number new (newest_bid_number new) ≡ limits_of_number old (newest_bid_number old) → HoldsGiven old → HoldsGiven new
  same_parts old new e1 e2 e3 e4 is = record {
    children = ap (λ (l : List ℕ). length l) e1 ∙ is.children;
    heard = given_as (head_number old.gathered.cache.heads place) (head_number new.gathered.cache.heads place) old.gathered.limits new.gathered.limits
        (ap (λ (k : Cache). head_number k.heads place) e2) e3 is.heard;
    recorded = given_as (child_number old.recorded place) (child_number new.recorded place) (limits_of_number old (newest_bid_number old))
        (limits_of_number new (newest_bid_number new)) (ap (λ (l : List ℕ). child_number l place) e1) e4 is.recorded;
  }

  passes_on : (old new : RelayValue) (price : PriceUpdate) → PricePassedOn old new price → HoldsGiven old → HoldsGiven new
  passes_on old new price did is =
      let newest : newest_bid_number new ≡ newest_bid_number old = omega (arith, did.base, did.passed.window.last) in
      same_parts old new did.recorded did.passed.cache did.passed.limits
      (ap (λ (l : List Limits). Some (get_or l (newest_bid_number new % limits_places) no_limits)) did.made_under
      ∙ ap (λ (n : ℕ). limits_of_number old n) newest) is

  takes_price : (old new : RelayValue) (price : PriceUpdate) (outcome : PriceOutcome) → TakesPrice old new price outcome → HoldsGiven old →
      HoldsGiven new
  takes_price old new price Dropped did is = subst (λ (r : RelayValue). HoldsGiven r) (sym did.1) is
  takes_price old new price PassedOn did is = passes_on old new price did.2 is
  takes_price old new price Waits did is = subst (λ (r : RelayValue). HoldsGiven r) (sym did.3) is
  takes_price old new price Alone did is =
      subst (λ (r : RelayValue). HoldsGiven r) (sym did.3) (same_parts old (with_price old price) refl refl refl refl is)

  -- a relay that has its record again heard the number that is in it
  rebuilt : (old new : RelayValue) → HearsItsRecord old → RecordRebuilt old new → HoldsGiven old → HoldsGiven new
  rebuilt old new hears did is =
      let newest : newest_bid_number new ≡ old.base = omega (arith, did.base, did.last) in
      record {
        children = ap (λ (l : List ℕ). length l) did.recorded ∙ is.children;
        heard = given_as (head_number old.gathered.cache.heads place) (head_number new.gathered.cache.heads place) old.gathered.limits
            new.gathered.limits (ap (λ (k : Cache). head_number k.heads place) did.cache) did.limits is.heard;
        recorded = elim (cases_lt place (length old.recorded)) [
          | inl inside ↦
              let equal : child_number old.recorded place ≡ head_number old.gathered.cache.heads place =
              omega (arith, hears.caught_up place inside, hears.nothing_newer place inside) in
              given_as (head_number old.gathered.cache.heads place) (child_number new.recorded place) old.gathered.limits
              (limits_of_number new (newest_bid_number new)) (ap (λ (l : List ℕ). child_number l place) did.recorded ∙ equal)
              (ap (λ (n : ℕ). limits_of_number new n) newest ∙ did.made_under) is.heard
          | inr past ↦ none_given (child_number new.recorded place) (limits_of_number new (newest_bid_number new))
              (ap (λ (l : List ℕ). child_number l place) did.recorded ∙ get_or_past old.recorded place 0 past)
        ];
      }

  looks : (old new : RelayValue) → LooksForRecord old new → HoldsGiven old → HoldsGiven new
  looks old new (inl found) is = rebuilt old new found.0 found.1 is
  looks old new (inr stays) is = subst (λ (r : RelayValue). HoldsGiven r) (sym stays.1) is

  -- a bid of another child
  other_head : (cache : Cache) (child number : ℕ) (demand : Option (List ℤ)) → (child ≡ place → ⊥) →
      head_number (after_learning cache child number demand).heads place ≡ head_number cache.heads place
  other_head cache child number demand other =
      either (λ (k : Cache). head_number k.heads place ≡ head_number cache.heads place) (leb number (kept_number cache child)) cache
      (with_newer_bid cache child number demand) (λ e. refl) (λ e. newer demand)
    where
      newer : (d : Option (List ℤ)) → head_number (with_newer_bid cache child number d).heads place ≡ head_number cache.heads place
      newer None = ap (λ (h : BidHead). h.number)
          (get_or-set_other cache.heads child place (record { number = number; gone = true }) nothing_sent (λ e. other (sym e)))
      newer (Some bid) = ap (λ (h : BidHead). h.number)
          (get_or-set_other cache.heads child place (record { number = number; gone = false }) nothing_sent (λ e. other (sym e)))

  learns_other : (r : RelayValue) (child number : ℕ) (demand : Option (List ℤ)) → (child ≡ place → ⊥) → HoldsGiven r →
      HoldsGiven (with_child_bid r child number demand)
  learns_other r child number demand other is = record {
    children = is.children;
    heard = given_as (head_number r.gathered.cache.heads place) (head_number (after_learning r.gathered.cache child number demand).heads place)
        r.gathered.limits r.gathered.limits (other_head r.gathered.cache child number demand other) refl is.heard;
    recorded = is.recorded;
  }

  -- limits that were given
  new_head : (cache : Cache) (number : ℕ) (limits : Limits) → Gave number limits → ltb (kept_number cache place) number ≡ true →
      WereGiven (head_number (after_learning cache place number None).heads place) (Some limits)
  new_head cache number limits gave newer =
      either (λ (k : Cache). WereGiven (head_number k.heads place) (Some limits)) (leb number (kept_number cache place)) cache
      (with_gone cache place number)
      (λ e. absurd (omega (arith, leb-true number (kept_number cache place) e, ltb-true (kept_number cache place) number newer)))
      (λ e. elim (cases_lt place (length cache.heads)) [
        | inl inside ↦ (λ some. (
          limits,
          refl,
          subst (λ (n : ℕ). Gave n limits)
              (sym (ap (λ (h : BidHead). h.number) (get_or-set_same cache.heads place head nothing_sent inside))) gave,
        ))
        | inr past ↦ none_given (head_number (set cache.heads place head) place) (Some limits)
            (ap (λ (h : BidHead). h.number) (get_or_past (set cache.heads place head) place nothing_sent
            (omega (arith, past, length-set cache.heads place head))))
      ])
    where
      head : BidHead
      head = record { number = number; gone = true }

  learns_limits : (r : RelayValue) (number : ℕ) (limits : Limits) → Gave number limits → HoldsGiven r →
      HoldsGiven (with_new_limits r place number limits)
  learns_limits r number limits gave is =
      either (λ (q : RelayValue). HoldsGiven q) (ltb (kept_number r.gathered.cache place) number)
      (record r { gathered = record (with_child_bid r place number None).gathered { limits = Some limits } }) r
      (λ e. record { children = is.children; heard = new_head r.gathered.cache number limits gave e; recorded = is.recorded }) (λ e. is)

  -- a bid of its own has the numbers that it heard, and the limits that count now
  sends : (old new : RelayValue) (number : ℕ) → BidSent old new number → HoldsGiven old → HoldsGiven new
  sends old new number did is =
      let newest : newest_bid_number new ≡ number = omega (arith, did.number, did.base, did.made.sent.last) in
      let children : length new.recorded ≡ most_nodes = did.children ∙ is.children in
      record {
        children = children;
        heard = given_as (head_number old.gathered.cache.heads place) (head_number new.gathered.cache.heads place) old.gathered.limits
            new.gathered.limits (ap (λ (k : Cache). head_number k.heads place) did.made.cache) did.made.limits is.heard;
        recorded = elim (cases_lt place most_nodes) [
          | inl inside ↦ given_as (head_number old.gathered.cache.heads place) (child_number new.recorded place) old.gathered.limits
              (limits_of_number new (newest_bid_number new)) (did.numbers place inside)
              (ap (λ (n : ℕ). limits_of_number new n) newest ∙ did.made_under) is.heard
          | inr past ↦ none_given (child_number new.recorded place) (limits_of_number new (newest_bid_number new))
              (get_or_past new.recorded place 0 (omega (arith, past, children)))
        ];
      }

  -- what it stores of itself
  stores : (own : RelaySetup) (r : RelayValue) → HoldsGiven r → KeepsGiven (stored_relay own r)
  stores own r is = record {
    children = is.children;
    given = λ some.
        let at = is.recorded some in
        subst (λ (l : Limits). Gave (child_number r.recorded place) l) (sym (ap (λ (o : Option Limits). unwrap_or o no_limits) at.1)) at.2;
  }

  -- a relay that comes back with what is stored
  pub comes_back : (steps : ℕ) (limits : Limits) (stored : StoredRelay) (r : RelayValue) →
      RelayComesBack steps limits stored.last stored.answered stored.index stored.numbers stored.limits r → KeepsGiven stored → HoldsGiven r
  comes_back steps limits stored r back is =
      let newest : newest_bid_number r ≡ stored.last = omega (arith, back.base, back.gathered.window.last) in
      record {
        children = ap (λ (l : List ℕ). length l) back.recorded ∙ is.children;
        heard = none_given (head_number r.gathered.cache.heads place) r.gathered.limits
            (ap (λ (k : Cache). head_number k.heads place) back.gathered.cache ∙ no_head);
        recorded = λ some. (
          stored.limits,
          ap (λ (n : ℕ). limits_of_number r n) newest ∙ back.made_under,
          subst (λ (n : ℕ). Gave n stored.limits) (sym (ap (λ (l : List ℕ). child_number l place) back.recorded))
              (is.given (subst (λ (n : ℕ). 0 < n) (ap (λ (l : List ℕ). child_number l place) back.recorded) some)),
        );
      }
    where
      no_head : head_number (Rattle.std.proofs.Common.replicate most_nodes nothing_sent) place ≡ 0
      no_head = elim (cases_lt place most_nodes) [
        | inl inside ↦ ap (λ (h : BidHead). h.number) (Rattle.std.proofs.lemmas.List.get_or-replicate most_nodes place nothing_sent nothing_sent inside)
        | inr past ↦ ap (λ (h : BidHead). h.number) (get_or_past (Rattle.std.proofs.Common.replicate most_nodes nothing_sent) place nothing_sent
            (omega (arith, past, Rattle.std.proofs.lemmas.List.length-replicate {A = BidHead} most_nodes nothing_sent)))
      ]

  -- ---- its answers

  abbrev Outs : Type 0
  Outs = List (Output StoredRelay)

  -- after an answer it holds what it was given, and each Resume in the answer has what it was given
  pub record Learns (after : WaitingRelay) (outs : Outs) : Type 0 where
    -- the relay after it
    pub holds : HoldsGiven after.relay
    pub kept : EachKept KeepsGiven outs

  says_kept : (b : Rattle.std.proofs.Common.Bool) (bytes : List ℕ) → EachKept KeepsGiven (cond b (Says bytes ∷ []) [])
  says_kept b bytes = either (λ (l : Outs). EachKept KeepsGiven l) b (Says bytes ∷ []) [] (λ e. (tt, tt)) (λ e. tt)

  bid_kept : (r : RelayValue) → EachKept KeepsGiven (bid_outs r)
  bid_kept r = (
    tt,
    either (λ (l : Outs). EachKept KeepsGiven l) (has_step_within r) [] (Says (out_of_limits_bytes (newest_bid_number r)) ∷ []) (λ e. tt) (λ e. (tt, tt)),
  )

  again_kept : (old new : RelayValue) → EachKept KeepsGiven (bid_again_outs old new)
  again_kept old new =
      either (λ (l : Outs). EachKept KeepsGiven l) (eqb old.gathered.window.last 0 && not (eqb new.gathered.window.last 0)) (bid_outs new) []
      (λ e. bid_kept new) (λ e. tt)

  drop_kept : (waiting : Option PriceUpdate) (price : PriceUpdate) → EachKept KeepsGiven (drop_outs waiting price)
  drop_kept None price = tt
  drop_kept (Some first) price = (tt, tt)

  price_kept : (own : RelaySetup) (waiting : Option PriceUpdate) (r : RelayValue) (price : PriceUpdate) (outcome : PriceOutcome) → HoldsGiven r →
      EachKept KeepsGiven (price_outs own waiting r price outcome)
  price_kept own waiting r price PassedOn is =
      let step : ℕ = settled_step_of_record (limits_of_number r price.number) price.step (record_at r price.number).sum in
      both_kept KeepsGiven (downs price.index step 0 (record_at r price.number).heads) (Keeps (stored_relay own r) ∷ [])
      (downs_keep_none KeepsGiven price.index step 0 (record_at r price.number).heads) (stores own r is, tt)
  price_kept own waiting r price Alone is = (stores own r is, tt)
  price_kept own waiting r price Waits is = drop_kept waiting price
  price_kept own waiting r price Dropped is = (tt, tt)

  prices : (own : RelaySetup) (old : WaitingRelay) (price : PriceUpdate) (new : WaitingRelay) (outs : Outs) → WritesPrice own old price new outs →
      HoldsGiven old.relay → Learns new outs
  prices own old price new outs did is =
      let holds = takes_price old.relay new.relay price did.outcome did.takes is in
      record {
        holds = holds;
        kept = subst (λ (l : Outs). EachKept KeepsGiven l) (sym did.replied) (price_kept own old.waiting new.relay price did.outcome holds);
      }

  tries : (own : RelaySetup) (waiting : Option PriceUpdate) (r : RelayValue) (new : WaitingRelay) (outs : Outs) → WritesWaiting own waiting r new outs →
      HoldsGiven r → Learns new outs
  tries own None r new outs did is =
      subst₂ (λ (a : WaitingRelay) (l : Outs). Learns a l) (sym did.0) (sym did.1) (record { holds = is; kept = tt })
  tries own (Some price) r new outs did is = prices own (record { relay = r; waiting = None }) price new outs did is

  -- first this, in which there is no Resume of another relay, and then what the price that waits makes
  then_tries : (own : RelaySetup) (waiting : Option PriceUpdate) (r : RelayValue) (new : WaitingRelay) (first more outs : Outs) →
      EachKept KeepsGiven first → WritesWaiting own waiting r new more → outs ≡ first ++ more → HoldsGiven r → Learns new outs
  then_tries own waiting r new first more outs kept did is_outs is =
      let tried = tries own waiting r new more did is in
      record {
        holds = tried.holds;
        kept = subst (λ (l : Outs). EachKept KeepsGiven l) (sym is_outs) (both_kept KeepsGiven first more kept tried.kept);
      }

  first_kept : (kept sender number : ℕ) (old new : RelayValue) →
      EachKept KeepsGiven (receipt_outs {K = StoredRelay} kept sender number ++ bid_again_outs old new)
  first_kept kept sender number old new =
      both_kept KeepsGiven (receipt_outs {K = StoredRelay} kept sender number) (bid_again_outs old new)
      (says_kept (leb number kept) (answer_bytes (reply.TheVariants.Old sender kept))) (again_kept old new)

  -- it learnt something under a number
  heard : (own : RelaySetup) (old : WaitingRelay) (sender number : ℕ) (learnt : RelayValue) (new : WaitingRelay) (reply outs : Outs) →
      WritesWaiting own old.waiting learnt new reply →
      outs ≡ receipt_outs (kept_number old.relay.gathered.cache (sender_place sender)) sender number ++ (bid_again_outs old.relay learnt ++ reply) →
      HoldsGiven learnt → Learns new outs
  heard own old sender number learnt new reply outs tries replied is =
      let kept : ℕ = kept_number old.relay.gathered.cache (sender_place sender) in
      let receipt : Outs = receipt_outs kept sender number in
      then_tries own old.waiting learnt new (receipt ++ bid_again_outs old.relay learnt) reply outs (first_kept kept sender number old.relay learnt) tries
      (replied ∙ sym (Rattle.std.proofs.Common.append_assoc receipt (bid_again_outs old.relay learnt) reply)) is

  bids : (own : RelaySetup) (old : WaitingRelay) (sender number : ℕ) (demand : Option (List ℤ)) (new : WaitingRelay) (outs : Outs) →
      (sender_place sender ≡ place → ⊥) → WritesBid own old sender number demand new outs → HoldsGiven old.relay → Learns new outs
  bids own old sender number demand new outs other did is =
      heard own old sender number did.learnt new did.waiting_reply outs did.tries did.replied
      (looks (with_child_bid old.relay (sender_place sender) number demand) did.learnt did.looks
      (learns_other old.relay (sender_place sender) number demand other is))

  limits_given : (own : RelaySetup) (old : WaitingRelay) (sender number : ℕ) (limits : Limits) (new : WaitingRelay) (outs : Outs) →
      sender_place sender ≡ place → Gave number limits → WritesLimits own old sender number limits new outs → HoldsGiven old.relay → Learns new outs
  limits_given own old sender number limits new outs here gave did is =
      heard own old sender number did.learnt new did.waiting_reply outs did.tries did.replied
      (looks (with_new_limits old.relay (sender_place sender) number limits) did.learnt did.looks
      (subst (λ (k : ℕ). HoldsGiven (with_new_limits old.relay k number limits)) (sym here) (learns_limits old.relay number limits gave is)))

  lets_go : (own : RelaySetup) (old : WaitingRelay) (sender : ℕ) (new : WaitingRelay) (outs : Outs) → (sender_place sender ≡ place → ⊥) →
      WritesExpire own old sender new outs → HoldsGiven old.relay → Learns new outs
  lets_go own old sender new outs other did is =
      then_tries own old.waiting did.learnt new (bid_again_outs old.relay did.learnt) did.waiting_reply outs (again_kept old.relay did.learnt) did.tries
      did.replied (looks (with_child_bid old.relay (sender_place sender) number None) did.learnt did.looks
      (learns_other old.relay (sender_place sender) number None other is))
    where
      number : ℕ
      number = Rattle.pm_relay.specs.Numbers.parents_number
          (Rattle.pm_relay.specs.Numbers.known_number old.relay.recorded old.relay.gathered.cache.heads (sender_place sender))

  asked : (own : RelaySetup) (old new : RelayValue) (outs : Outs) → WritesAsked own old new outs → HoldsGiven old →
      HoldsGiven new × EachKept KeepsGiven outs
  asked own old new outs (inl sent) is =
      let holds = sends old new sent.0 sent.1 is in
      (holds, subst (λ (l : Outs). EachKept KeepsGiven l) (sym sent.2) (stores own new holds, bid_kept new))
  asked own old new outs (inr refused) is =
      (subst (λ (r : RelayValue). HoldsGiven r) (sym refused.2) is, subst (λ (l : Outs). EachKept KeepsGiven l) (sym refused.3) (tt, tt))

  asks : (own : RelaySetup) (old new : WaitingRelay) (outs : Outs) → WritesSend own old new outs → HoldsGiven old.relay → Learns new outs
  asks own old new outs did is =
      let first = asked own old.relay did.asked did.first did.answers is in
      then_tries own old.waiting did.asked new did.first did.waiting_reply outs first.1 did.tries did.replied first.0

  quiet : (old new : WaitingRelay) (outs : Outs) → new ≡ old → outs ≡ [] → HoldsGiven old.relay → Learns new outs
  quiet old new outs e1 e2 is =
      subst₂ (λ (a : WaitingRelay) (l : Outs). Learns a l) (sym e1) (sym e2) (record { holds = is; kept = tt })

  says : (old new : WaitingRelay) (said : List ℕ) (outs : Outs) → new ≡ old → outs ≡ Says said ∷ [] → HoldsGiven old.relay → Learns new outs
  says old new said outs e1 e2 is =
      subst₂ (λ (a : WaitingRelay) (l : Outs). Learns a l) (sym e1) (sym e2) (record { holds = is; kept = (tt, tt) })

-- a relay that is given its limits in this place
module _ (Gave : ℕ → Limits → Type 0) (giver : ℕ) (own : RelaySetup) (is_giver : own.terms.giver ≡ Some giver) where
  abbrev Outs' : Type 0
  Outs' = List (Output StoredRelay)

  -- what it makes of a frame, if limits in it were given, and no Bid, Gone or Expire is of that place
  pub learns_by_frame : (bounds : List Limits) (old : WaitingRelay) (frame : RelayFrame) (new : WaitingRelay) (outs : List (Output StoredRelay)) →
      PassesGiver own.terms.giver frame →
      ((number : ℕ) (limits : Limits) → frame ≡ given.Limits number limits → Gave number limits) →
      ((stored : StoredRelay) → frame ≡ Resume stored → ⊥) → WritesRelay own bounds old frame new outs →
      HoldsGiven Gave (sender_place giver) old.relay → Learns Gave (sender_place giver) new outs
  learns_by_frame bounds old (Child (Hello basis)) new outs passes gave starts did is = quiet Gave (sender_place giver) old new outs did.0 did.1 is
  learns_by_frame bounds old (Child (Bid sender number demand)) new outs passes gave starts (inl did) is =
      bids Gave (sender_place giver) own old sender number (Some demand) new outs (passes giver is_giver) did.1 is
  learns_by_frame bounds old (Child (Bid sender number demand)) new outs passes gave starts (inr did) is =
      says Gave (sender_place giver) old new (Rattle.pm_frames.specs.Answers.too_much_bytes sender number) outs did.1.0 did.1.1 is
  learns_by_frame bounds old (Child (Gone sender number)) new outs passes gave starts did is =
      bids Gave (sender_place giver) own old sender number None new outs (passes giver is_giver) did is
  learns_by_frame bounds old (Child Clear) new outs passes gave starts did is = quiet Gave (sender_place giver) old new outs did.0 did.1 is
  learns_by_frame bounds old (Parent (Price child number index step basis)) new outs passes gave starts (inl did) is =
      prices Gave (sender_place giver) own old (record { step = step; number = number; index = index }) new outs did.1 is
  learns_by_frame bounds old (Parent (Price child number index step basis)) new outs passes gave starts (inr did) is =
      says Gave (sender_place giver) old new (Rattle.pm_frames.specs.Answers.other_basis_bytes number index) outs did.1.0 did.1.1 is
  learns_by_frame bounds old (Parent (Old child kept)) new outs passes gave starts did is = quiet Gave (sender_place giver) old new outs did.0 did.1 is
  learns_by_frame bounds old Send new outs passes gave starts did is = asks Gave (sender_place giver) own old new outs did is
  learns_by_frame bounds old (Expire sender) new outs passes gave starts did is =
      lets_go Gave (sender_place giver) own old sender new outs (passes giver is_giver) did is
  learns_by_frame bounds old (given.Limits number limits) new outs passes gave starts did is =
      limits_given Gave (sender_place giver) own old giver number limits new outs refl (gave number limits refl)
      (subst (λ (g : Option ℕ). WritesGiven g own old number limits new outs) is_giver did) is
  learns_by_frame bounds old (Bound sender bound) new outs passes gave starts did is = quiet Gave (sender_place giver) old new outs did.0 did.1 is
  learns_by_frame bounds old (Resume stored) new outs passes gave starts did is = absurd (starts stored refl)

  -- and of what is stored, when it comes back with that
  pub learns_by_kept : (old : WaitingRelay) (stored : StoredRelay) (new : WaitingRelay) (outs : List (Output StoredRelay)) →
      WritesKept own.terms.giver own old stored new outs → KeepsGiven Gave (sender_place giver) stored →
      HoldsGiven Gave (sender_place giver) old.relay → Learns Gave (sender_place giver) new outs
  learns_by_kept old stored new outs did kept is =
      elim (subst (λ (g : Option ℕ). WritesKept g own old stored new outs) is_giver did) [
        | inl none ↦ quiet Gave (sender_place giver) old new outs none.1.0 none.1.1 is
        | inr some ↦ limits_given Gave (sender_place giver) own old giver (child_number stored.numbers (sender_place giver)) stored.limits new outs refl
            (kept.given some.0) some.1 is
      ]

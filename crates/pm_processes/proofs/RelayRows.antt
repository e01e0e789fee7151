-- Of the worked answers: those of a relay.
use Rattle.std.proofs.Common.{◌≡◌, ◌⊎◌, ◌∙◌, sym, ap, subst, refl, inl, inr, ℕ}
use Rattle.std.proofs.Common.{◌+◌, ◌-◌, ◌%◌, ◌<◌, ◌≤◌, ◌^◌, ℤ, pos, negsuc, arith}
use Rattle.std.proofs.Common.{List, [], ◌∷◌, ◌++◌, append-nil, Option, Some, None, eqb, cond, not}
use Rattle.std.proofs.lemmas.Int.{ints}
use Rattle.std.specs.Prelude.{slice_index_or}
use Rattle.pm_base.specs.declared.limits.Limits.{Limits}
use Rattle.pm_bid.specs.Taken.{said_between}
use Rattle.pm_bid.specs.declared.head.BidHead.{BidHead}
use Rattle.pm_cache.specs.Cache.{Cache, kept_number}
use Rattle.pm_concentrator.specs.Limited.{settled_step_of_record}
use Rattle.pm_session.specs.Windows.{Sent, record_of}
use Rattle.pm_session.specs.declared.price.PriceUpdate.{PriceUpdate}
use Rattle.pm_wire.specs.declared.frame.Frame.TheVariants.{Hello, Bid, Gone, Clear}
use Rattle.pm_relay.specs.Numbers.{IsCaughtUp, head_number}
use Rattle.pm_relay.specs.Relays.{RelayValue, HasChanged, newest_bid_number, record_at, limits_of_number, limits_places, no_limits}
use Rattle.pm_relay.specs.Relays.{with_child_bid, with_new_limits, with_price, LooksForRecord, HearsItsRecord, RecordRebuilt, BidSent, NotSent}
use Rattle.pm_relay.specs.Relays.{IsNewPrice, MayHearRecord, PricePassedOn}
use Rattle.pm_relay.specs.declared.fault.SendFault.{SendFault}
use Rattle.pm_relay.specs.declared.fault.SendFault.TheVariants.{NotCaughtUp, NotChanged, WindowFull, OutOfNumbers}
use Rattle.pm_frames.specs.Answers.{dropped_bytes, other_basis_bytes}
use Rattle.pm_frames.specs.Stored.{StoredRelay}
use Rattle.pm_frames.specs.declared.terms.RelayTerms.{RelayTerms}
use Rattle.pm_frames.specs.declared.parent.ParentFrame.TheVariants.{Price, Old}
use Rattle.pm_frames.specs.declared.relay.RelayFrame.{RelayFrame}
use Rattle.pm_frames.specs.declared.relay.RelayFrame.TheVariants as to_relay
use Rattle.pm_services.specs.Bounds.{KeepsBound, no_bounds, widest}
use Rattle.pm_services.specs.Outputs.{Keeps, Says}
use Rattle.pm_services.specs.Receipts.{downs, receipt_outs}
use Rattle.pm_services.specs.RelaySetups.{RelaySetup}
use Rattle.pm_services.specs.RelayWrites.{WaitingRelay, WritesPrice, WritesWaiting, WritesBid, WritesBounded, WritesAsked, WritesSend}
use Rattle.pm_services.specs.RelayWrites.{relay_bytes, stored_relay, bid_outs, bid_again_outs, waiting_with}
use Rattle.pm_services.specs.RelayWrites.{drop_outs, down_outs, not_sent_reply, WritesResumed, WritesLimits, WritesExpire}
use Rattle.pm_services.specs.RelayAnswers.{OpenRelay, ComesUp}
use Rattle.pm_system.proofs.WorkedValues.{reaches, reached, suffices, enough}
use Rattle.pm_processes.specs.Processes.{new_relay_service}
use Rattle.pm_processes.specs.WorkedAnswers.{second_demand, sum_field, low_field, wide, wide_field, narrow, narrow_field}
use Rattle.pm_processes.specs.WorkedAnswers.{small_bound, child_numbers, price_written, no_demand, holds, holds_one, holds_both, gone_under, bid_under}
use Rattle.pm_processes.specs.WorkedAnswers.{relay_setup_with, back, has_record, open_relay_with, hears_one}
use Rattle.pm_processes.specs.WorkedAnswers.{hears_all, hears_newer, hears_giver, price_of_three, price_three, second_bids}
use Rattle.pm_processes.specs.WorkedAnswers.{resume_written, relay_bid_written, giver_setup, stored_without, serves, RelayTurns}
use Rattle.pm_processes.specs.WorkedAnswers.{old_written, too_much_written, hears_bounded, IsRelayHello}
use Rattle.pm_processes.specs.WorkedAnswers.{RelayRows, first_demand, first_field, hears_one_without}
use Rattle.pm_processes.proofs.AnswerRows.{two_keep, recorded_are}
use Rattle.pm_processes.proofs.RelayCauses.{Outs, same_service, says, turns, bytes_of, it_drops, it_waits, is_alone, it_passes, told, stored_by}
use Rattle.pm_processes.proofs.RelayCauses.{stored_are, bid_by, bid_are, lacks, still, full, out_by, number_is, send_is, refuses}

abbrev wide_setup : RelaySetup
wide_setup = relay_setup_with wide

-- ---- a relay that has the record of number 3, and holds the price of index 6 for number 2

record Knows (r : RelayValue) : Type 0 where
  base : r.base ≡ 2
  last : r.gathered.window.last ≡ 1
  answered : r.answered ≡ 2
  index : r.index ≡ 6
  limits : limits_of_number r 3 ≡ Some wide
  heads : (record_at r 3).heads ≡ (holds_both 1 4).heads
  sum : (record_at r 3).sum ≡ Some (pos 21 ∷ negsuc 2 ∷ [])
  recorded : r.recorded ≡ child_numbers 1 4

abbrev down_by : Option Limits → Option (List ℤ) → List BidHead → Outs
down_by limits sum heads = downs 7 (settled_step_of_record limits 1 sum) 0 heads

abbrev passed_bytes : List ℕ
passed_bytes = price_written 1 1 7 ++ (price_written 2 4 7 ++ resume_written wide_field 3 3 7 1 4)

passed_down : (old new : RelayValue) → Knows old → PricePassedOn old new (price_of_three 7 1) →
    relay_bytes wide_setup (down_outs new (price_of_three 7 1) ++ Keeps (stored_relay wide_setup new) ∷ []) ≡ passed_bytes
passed_down old new knows passed =
    let at : record_at new 3 ≡ record_at old 3 =
    ap (λ (n : ℕ). record_of new.gathered.window (3 - n)) passed.base
    ∙ passed.passed.window.records (3 - old.base) (record {
      one = omega (arith, knows.base);
      from = omega (arith, knows.base, passed.passed.window.answered);
      to = omega (arith, knows.base, knows.last, passed.passed.window.last);
    }) in
    let under : limits_of_number new 3 ≡ Some wide =
    ap (λ (l : List Limits). Some (slice_index_or l (3 % limits_places) no_limits)) passed.made_under ∙ knows.limits in
    let newest : newest_bid_number new ≡ 3 = omega (arith, knows.base, knows.last, passed.base, passed.passed.window.last) in
    let stored : stored_relay wide_setup new ≡ stored_by wide_setup 3 3 7 (Some wide) (child_numbers 1 4) =
    stored_are wide_setup new 3 3 7 (Some wide) (child_numbers 1 4) newest passed.answered passed.index
    (ap (λ (n : ℕ). limits_of_number new n) newest ∙ under) (passed.recorded ∙ knows.recorded) in
    let down : down_outs new (price_of_three 7 1) ≡ down_by (Some wide) (Some (pos 21 ∷ negsuc 2 ∷ [])) (holds_both 1 4).heads =
    ap (λ (l : Option Limits). down_by l (record_at new 3).sum (record_at new 3).heads) under
    ∙ (ap (λ (s : Option (List ℤ)). down_by (Some wide) s (record_at new 3).heads) (ap (λ (s : Sent). s.sum) at ∙ knows.sum)
    ∙ ap (λ (h : List BidHead). down_by (Some wide) (Some (pos 21 ∷ negsuc 2 ∷ [])) h) (ap (λ (s : Sent). s.heads) at ∙ knows.heads)) in
    bytes_of wide_setup (down_outs new (price_of_three 7 1) ++ Keeps (stored_relay wide_setup new) ∷ [])
    (down_by (Some wide) (Some (pos 21 ∷ negsuc 2 ∷ [])) (holds_both 1 4).heads
    ++ Keeps (stored_by wide_setup 3 3 7 (Some wide) (child_numbers 1 4)) ∷ []) passed_bytes
    (ap (λ (l : Outs). l ++ Keeps (stored_relay wide_setup new) ∷ []) down
    ∙ ap (λ (k : StoredRelay). down_by (Some wide) (Some (pos 21 ∷ negsuc 2 ∷ [])) (holds_both 1 4).heads ++ Keeps k ∷ []) stored) refl

-- a price of index 7 for this number goes down
goes_down : (old : RelayValue) (waiting' : Option PriceUpdate) (new : WaitingRelay) (outs : Outs) → Knows old →
    WritesPrice wide_setup (record { relay = old; waiting = waiting' }) (price_of_three 7 1) new outs →
    relay_bytes wide_setup outs ≡ passed_bytes
goes_down old waiting' new outs knows w =
    let found = it_passes wide_setup (record { relay = old; waiting = waiting' }) (price_of_three 7 1) new outs (record {
      newer = omega (arith, knows.index);
      one = omega arith;
      from = omega (arith, knows.answered);
      to = omega (arith, knows.base, knows.last);
    }) (omega (arith, knows.base)) w in
    ap (λ (l : Outs). relay_bytes wide_setup l) found.0 ∙ passed_down old new.relay knows found.1

-- it knows this as it is given in the rows, and once what it heard was its record again
has_it : Knows has_record
has_it = record { base = refl; last = refl; answered = refl; index = refl; limits = refl; heads = refl; sum = refl; recorded = refl }

-- with the Bid of number 4 child 2 is heard again
abbrev heard_again : RelayValue
heard_again = with_child_bid (back wide 3 2 holds_one) 1 4 (Some second_demand)

rebuilt_knows : (r : RelayValue) → RecordRebuilt heard_again r → Knows r
rebuilt_knows r found = record {
  base = omega (arith, found.base);
  last = found.last;
  answered = found.answered;
  index = found.index;
  limits = found.made_under;
  heads = found.heads;
  sum = found.sum;
  recorded = found.recorded;
}

hears_it : HearsItsRecord heard_again
unfolding reaches suffices
hears_it = record {
  came_back = omega arith;
  lost = refl;
  caught_up = reached heard_again.recorded heard_again.gathered.cache.heads refl;
  nothing_newer = enough heard_again.recorded heard_again.gathered.cache.heads refl;
  changed = λ e. absurd (omega (arith, ap (λ (l : List BidHead). head_number l 0) e));
}

-- it stays as it was told if it does not hear its record
stays : (heard learnt : RelayValue) → (HearsItsRecord heard → ⊥) → LooksForRecord heard learnt → learnt ≡ heard
stays heard learnt lacks (inl found) = absurd (lacks found.0)
stays heard learnt lacks (inr other) = other.1

found : (learnt : RelayValue) → LooksForRecord heard_again learnt → RecordRebuilt heard_again learnt
found learnt (inl again) = again.1
found learnt (inr other) = absurd (other.0 hears_it)

-- its last Bid again
again_is : (learnt : RelayValue) → RecordRebuilt heard_again learnt →
    bid_again_outs (back wide 3 2 holds_one) learnt ≡ bid_by 3 (pos 21 ∷ negsuc 2 ∷ []) (Some wide) (holds_both 1 4)
unfolding said_between
again_is learnt did =
    ap (λ (n : ℕ). cond (not (eqb n 0)) (bid_outs learnt) []) did.last
    ∙ bid_are learnt 3 (pos 21 ∷ negsuc 2 ∷ []) (Some wide) (holds_both 1 4) (omega (arith, did.base, did.last)) did.announced did.limits did.cache

-- ---- the Bids of child 2

keeps : KeepsBound no_bounds 2 second_demand
keeps = two_keep widest (pos 16) (pos 0) (omega (arith, ints), omega (arith, ints)) (omega (arith, ints), omega (arith, ints))

breaks : KeepsBound hears_bounded.bounds 2 second_demand → ⊥
breaks holds = absurd (omega (arith, ints, (holds 0 (omega arith)).1))

counts : (own : RelaySetup) (old : WaitingRelay) (number : ℕ) (new : WaitingRelay) (outs : Outs) →
    WritesBounded own no_bounds old 2 number second_demand new outs → WritesBid own old 2 number (Some second_demand) new outs
counts own old number new outs (inl did) = did.1
counts own old number new outs (inr did) = absurd (did.0 keeps)

bids_again : (new : WaitingRelay) (outs : Outs) → WritesBounded wide_setup no_bounds (hears_one None).held 2 4 second_demand new outs →
    relay_bytes wide_setup outs ≡ relay_bid_written 3 sum_field
bids_again new outs did =
    let w = counts wide_setup (hears_one None).held 4 new outs did in
    bytes_of wide_setup outs (bid_by 3 (pos 21 ∷ negsuc 2 ∷ []) (Some wide) (holds_both 1 4) ++ []) (relay_bid_written 3 sum_field)
    (w.replied ∙ (ap (λ (l : Outs). l ++ w.waiting_reply) (again_is w.learnt (found w.learnt w.looks))
    ∙ ap (λ (l : Outs). bid_by 3 (pos 21 ∷ negsuc 2 ∷ []) (Some wide) (holds_both 1 4) ++ l) w.tries.1)) refl

-- the bytes of the Bid stand before those of what follows
bid_then : (more : Outs) → relay_bytes wide_setup (bid_by 3 (pos 21 ∷ negsuc 2 ∷ []) (Some wide) (holds_both 1 4) ++ more)
    ≡ relay_bid_written 3 sum_field ++ relay_bytes wide_setup more
bid_then more = refl

bids_and_passes : (new : WaitingRelay) (outs : Outs) →
    WritesBounded wide_setup no_bounds (hears_one (Some (price_of_three 7 1))).held 2 4 second_demand new outs →
    relay_bytes wide_setup outs ≡ relay_bid_written 3 sum_field ++ passed_bytes
bids_and_passes new outs did =
    let w = counts wide_setup (hears_one (Some (price_of_three 7 1))).held 4 new outs did in
    let again = found w.learnt w.looks in
    bytes_of wide_setup outs (bid_by 3 (pos 21 ∷ negsuc 2 ∷ []) (Some wide) (holds_both 1 4) ++ w.waiting_reply)
    (relay_bid_written 3 sum_field ++ passed_bytes)
    (w.replied ∙ ap (λ (l : Outs). l ++ w.waiting_reply) (again_is w.learnt again))
    (bid_then w.waiting_reply
    ∙ ap (λ (l : List ℕ). relay_bid_written 3 sum_field ++ l) (goes_down w.learnt None new w.waiting_reply (rebuilt_knows w.learnt again) w.tries))

-- a price that waited is taken alone once the record cannot come again
alone_behind : (heard learnt : RelayValue) (new : WaitingRelay) (reply : Outs) → learnt ≡ heard → IsNewPrice heard (price_of_three 7 1) →
    3 ≤ heard.base →
    (MayHearRecord heard 3 → ⊥) → WritesWaiting wide_setup (Some (price_of_three 7 1)) learnt new reply →
    (reply ≡ Keeps (stored_relay wide_setup (with_price heard (price_of_three 7 1))) ∷ [])
    × (new ≡ record { relay = with_price heard (price_of_three 7 1); waiting = None })
alone_behind heard learnt new reply same is_new lost never tries =
    is_alone wide_setup (record { relay = heard; waiting = None }) (price_of_three 7 1) new reply is_new lost never
    (subst (λ (r : RelayValue). WritesPrice wide_setup (record { relay = r; waiting = None }) (price_of_three 7 1) new reply) same tries)

abbrev heard_newer : RelayValue
heard_newer = with_child_bid (back wide 3 2 holds_one) 1 5 (Some second_demand)

never_is : (new : WaitingRelay) (outs : Outs) →
    WritesBounded wide_setup no_bounds (hears_one (Some (price_of_three 7 1))).held 2 5 second_demand new outs →
    (relay_bytes wide_setup outs ≡ resume_written wide_field 3 3 7 1 4)
    × (new ≡ record { relay = record (back wide 3 3 (holds_both 1 5)) { index = 7 }; waiting = None })
never_is new outs did =
    let w = counts wide_setup (hears_one (Some (price_of_three 7 1))).held 5 new outs did in
    let same : w.learnt ≡ heard_newer = stays heard_newer w.learnt (λ h. absurd (omega (arith, h.nothing_newer 1 (omega arith)))) w.looks in
    let taken = alone_behind heard_newer w.learnt new w.waiting_reply same
    (record { newer = omega arith; one = omega arith; from = omega arith; to = omega arith }) (omega arith)
    (λ h. absurd (omega (arith, h.nothing_newer 1 (omega arith)))) w.tries in (
      bytes_of wide_setup outs (Keeps (stored_relay wide_setup (with_price heard_newer (price_of_three 7 1))) ∷ []) _
          (w.replied ∙ (ap (λ (r : RelayValue). bid_again_outs (back wide 3 2 holds_one) r ++ w.waiting_reply) same ∙ taken.0)) refl,
      taken.1,
    )

abbrev heard_gone : RelayValue
heard_gone = with_child_bid (back wide 3 2 holds_one) 1 5 None

let_go_is : (new : WaitingRelay) (outs : Outs) → WritesExpire wide_setup (hears_one (Some (price_of_three 7 1))).held 2 new outs →
    (relay_bytes wide_setup outs ≡ resume_written wide_field 3 3 7 1 4)
    × (new ≡ record { relay = record (back wide 3 3 (holds (bid_under 1) first_demand (gone_under 5) no_demand)) { index = 7 }; waiting = None })
let_go_is new outs w =
    let same : w.learnt ≡ heard_gone = stays heard_gone w.learnt (λ h. absurd (omega (arith, h.nothing_newer 1 (omega arith)))) w.looks in
    let taken = alone_behind heard_gone w.learnt new w.waiting_reply same
    (record { newer = omega arith; one = omega arith; from = omega arith; to = omega arith }) (omega arith)
    (λ h. absurd (omega (arith, h.nothing_newer 1 (omega arith)))) w.tries in (
      bytes_of wide_setup outs (Keeps (stored_relay wide_setup (with_price heard_gone (price_of_three 7 1))) ∷ []) _
          (w.replied ∙ (ap (λ (r : RelayValue). bid_again_outs (back wide 3 2 holds_one) r ++ w.waiting_reply) same ∙ taken.0)) refl,
      taken.1,
    )

-- if child 2 was gone in the record, it is had again once child 2 is let go
abbrev heard_without : RelayValue
heard_without = with_child_bid hears_one_without.held.relay 1 5 None

hears_without : HearsItsRecord heard_without
unfolding reaches suffices
hears_without = record {
  came_back = omega arith;
  lost = refl;
  caught_up = reached heard_without.recorded heard_without.gathered.cache.heads refl;
  nothing_newer = enough heard_without.recorded heard_without.gathered.cache.heads refl;
  changed = λ e. absurd (omega (arith, ap (λ (l : List BidHead). head_number l 0) e));
}

again_without : (learnt : RelayValue) → LooksForRecord heard_without learnt →
    bid_again_outs hears_one_without.held.relay learnt ≡ bid_by 3 first_demand (Some wide) heard_without.gathered.cache
unfolding said_between
again_without learnt (inl again) =
    let did = again.1 in
    ap (λ (n : ℕ). cond (not (eqb n 0)) (bid_outs learnt) []) did.last
    ∙ bid_are learnt 3 first_demand (Some wide) heard_without.gathered.cache (omega (arith, did.base, did.last)) did.announced did.limits did.cache
again_without learnt (inr other) = absurd (other.0 hears_without)

let_go_again_is : (new : WaitingRelay) (outs : Outs) → WritesExpire wide_setup hears_one_without.held 2 new outs →
    relay_bytes wide_setup outs ≡ relay_bid_written 3 first_field
let_go_again_is new outs w =
    bytes_of wide_setup outs (bid_by 3 first_demand (Some wide) heard_without.gathered.cache ++ []) _
    (w.replied ∙ (ap (λ (l : Outs). l ++ w.waiting_reply) (again_without w.learnt w.looks)
    ∙ ap (λ (l : Outs). bid_by 3 first_demand (Some wide) heard_without.gathered.cache ++ l) w.tries.1)) refl

old_is : (new : WaitingRelay) (outs : Outs) → WritesBounded wide_setup no_bounds hears_all.held 2 4 second_demand new outs →
    (relay_bytes wide_setup outs ≡ old_written 2 4) × (new ≡ hears_all.held)
old_is new outs did =
    let w = counts wide_setup hears_all.held 4 new outs did in
    let same : w.learnt ≡ has_record = stays has_record w.learnt (λ h. absurd (omega (arith, h.lost))) w.looks in (
      bytes_of wide_setup outs (receipt_outs 4 2 4 ++ []) _ (w.replied ∙ ap (λ (l : Outs). receipt_outs 4 2 4 ++ l) w.tries.1) refl,
      w.tries.0 ∙ ap (λ (r : RelayValue). record { relay = r; waiting = None }) same,
    )

abbrev record_without : RelayValue
record_without = with_child_bid has_record 1 6 None

gone_is : (new : WaitingRelay) (outs : Outs) → WritesBid wide_setup hears_all.held 2 6 None new outs →
    (relay_bytes wide_setup outs ≡ []) × (new ≡ record { relay = record_without; waiting = None })
gone_is new outs w =
    let same : w.learnt ≡ record_without = stays record_without w.learnt (λ h. absurd (omega (arith, h.lost))) w.looks in (
      bytes_of wide_setup outs [] [] (w.replied ∙ w.tries.1) refl,
      w.tries.0 ∙ ap (λ (r : RelayValue). record { relay = r; waiting = None }) same,
    )

too_much_is : (new : WaitingRelay) (outs : Outs) → WritesBounded wide_setup hears_bounded.bounds hears_all.held 2 6 second_demand new outs →
    (relay_bytes wide_setup outs ≡ too_much_written 2 6) × (new ≡ hears_all.held)
too_much_is new outs (inl did) = absurd (breaks did.0)
too_much_is new outs (inr did) = (ap (λ (l : Outs). relay_bytes wide_setup l) did.1.1, did.1.0)

-- ---- a relay that heard both again, child 1 under a greater number

abbrev newer : Limits → ℕ → ℕ → RelayValue
newer limits last answered = back limits last answered (holds_both 2 4)

newer_caught : (limits : Limits) (last answered : ℕ) → IsCaughtUp (child_numbers 1 4) (holds_both 2 4).heads
unfolding reaches
newer_caught limits last answered = reached (child_numbers 1 4) (holds_both 2 4).heads refl

newer_changed : (limits : Limits) (last answered : ℕ) → HasChanged (newer limits last answered)
newer_changed limits last answered e = absurd (omega (arith, ap (λ (l : List BidHead). head_number l 0) e))

record_caught : IsCaughtUp (child_numbers 1 4) (holds_both 1 4).heads
unfolding reaches
record_caught = reached (child_numbers 1 4) (holds_both 1 4).heads refl

-- no cause holds of it, if few numbers are unanswered
not_refused : (limits : Limits) (fault : SendFault) → NotSent (newer limits 3 2) fault → ⊥
not_refused limits NotCaughtUp why = why (newer_caught limits 3 2)
not_refused limits NotChanged why = newer_changed limits 3 2 why.1
not_refused limits WindowFull why = absurd (omega (arith, why.2))
not_refused limits OutOfNumbers why = absurd (omega (arith, why.3))

-- its Resume of number 4, and its Bid
sent_by : (limits : Limits) (demand : List ℤ) (asked : RelayValue) (first : Outs) →
    ((new : RelayValue) (number : ℕ) → BidSent (newer limits 3 2) new number → new.gathered.announced ≡ Some demand) →
    WritesAsked (relay_setup_with limits) (newer limits 3 2) asked first →
    first ≡ Keeps (stored_by (relay_setup_with limits) 4 2 6 (Some limits) (child_numbers 2 4))
    ∷ bid_by 4 demand (Some limits) (holds_both 2 4)
sent_by limits demand asked first says_so (inl did) =
    let own : RelaySetup = relay_setup_with limits in
    let sent = did.1 in
    let number : newest_bid_number asked ≡ 4 = number_is own (newer limits 3 2) asked first did.0 sent in
    let under : limits_of_number asked (newest_bid_number asked) ≡ Some limits =
    ap (λ (n : ℕ). limits_of_number asked n) (number ∙ sym sent.number) ∙ sent.made_under in
    let numbers : asked.recorded ≡ child_numbers 2 4 = recorded_are asked.recorded (holds_both 2 4).heads sent.children refl sent.numbers in
    did.2
    ∙ (ap (λ (k : StoredRelay). Keeps k ∷ bid_outs asked)
    (stored_are own asked 4 2 6 (Some limits) (child_numbers 2 4) number sent.answered sent.index under numbers)
    ∙ ap (λ (l : Outs). Keeps (stored_by own 4 2 6 (Some limits) (child_numbers 2 4)) ∷ l)
    (bid_are asked 4 demand (Some limits) (holds_both 2 4) number (says_so asked did.0 sent) sent.made.limits sent.made.cache))
sent_by limits demand asked first says_so (inr did) = absurd (not_refused limits did.0 did.1)

wide_announced : (new : RelayValue) (number : ℕ) → BidSent (newer wide 3 2) new number → new.gathered.announced ≡ Some (pos 21 ∷ negsuc 2 ∷ [])
unfolding said_between
wide_announced new number did = did.announced

narrow_announced : (new : RelayValue) (number : ℕ) → BidSent (newer narrow 3 2) new number →
    new.gathered.announced ≡ Some (negsuc 2 ∷ negsuc 2 ∷ [])
unfolding said_between
narrow_announced new number did = did.announced

sends_is : (new : WaitingRelay) (outs : Outs) → WritesSend wide_setup (hears_newer wide 3 2).held new outs →
    relay_bytes wide_setup outs ≡ resume_written wide_field 4 2 6 2 4 ++ relay_bid_written 4 sum_field
sends_is new outs w =
    ap (λ (l : Outs). relay_bytes wide_setup l)
    ((send_is wide_setup (newer wide 3 2) new outs w).0
    ∙ sent_by wide (pos 21 ∷ negsuc 2 ∷ []) w.asked w.first wide_announced w.answers)

out_of_limits_is : (new : WaitingRelay) (outs : Outs) → WritesSend (relay_setup_with narrow) (hears_newer narrow 3 2).held new outs →
    relay_bytes (relay_setup_with narrow) outs ≡ resume_written narrow_field 4 2 6 2 4 ++
    (relay_bid_written 4 low_field ++ (27 ∷ 0 ∷ 0 ∷ 0 ∷ 4 ∷ []))
out_of_limits_is new outs w =
    ap (λ (l : Outs). relay_bytes (relay_setup_with narrow) l)
    ((send_is (relay_setup_with narrow) (newer narrow 3 2) new outs w).0
    ∙ sent_by narrow (negsuc 2 ∷ negsuc 2 ∷ []) w.asked w.first narrow_announced w.answers)

-- no number is left
abbrev spent : RelayValue
spent = newer wide 4294967295 4294967295

out_of_is : (asked : RelayValue) (first : Outs) → WritesAsked wide_setup spent asked first →
    (first ≡ Says (not_sent_reply OutOfNumbers) ∷ []) ⊎ (2 ^ 32 ≤ newest_bid_number asked)
out_of_is asked first (inl did) = inr (omega (arith, number_is wide_setup spent asked first did.0 did.1))
out_of_is asked first (inr did) =
    inl (out_by wide_setup spent asked first (newer_caught wide 0 0) (newer_changed wide 4294967295 4294967295) (omega arith)
    did.0 did.1 did.2 did.3).1.0

-- ---- limits that are given

-- nothing was given, so nothing is learnt
none_given : (old new : WaitingRelay) (outs : Outs) → WritesResumed giver_setup stored_without new outs →
    (outs ≡ []) × (new.relay.gathered.limits ≡ Some wide) × (kept_number new.relay.gathered.cache 1 ≡ 0)
none_given old new outs w = elim w.learns [
  | inl quiet ↦ (
    quiet.1.1,
    ap (λ (r : WaitingRelay). r.relay.gathered.limits) quiet.1.0 ∙ w.opens.back.gathered.limits,
    ap (λ (r : WaitingRelay). kept_number r.relay.gathered.cache 1) quiet.1.0 ∙ ap (λ (k : Cache). kept_number k 1) w.opens.back.gathered.cache,
  )
  | inr given ↦ absurd (omega (arith, given.0))
]

-- limits under a newer number count
abbrev given_wide : RelayValue
given_wide = with_new_limits hears_giver.held.relay 1 6 wide

limits_given : (new : WaitingRelay) (outs : Outs) → WritesLimits giver_setup hears_giver.held 2 6 wide new outs →
    (outs ≡ []) × (new.relay ≡ given_wide)
limits_given new outs w =
    let same : w.learnt ≡ given_wide = stays given_wide w.learnt (λ h. absurd (omega (arith, h.nothing_newer 1 (omega arith)))) w.looks in (
      w.replied ∙ (ap (λ (r : RelayValue). bid_again_outs hears_giver.held.relay r ++ w.waiting_reply) same ∙ w.tries.1),
      ap (λ (r : WaitingRelay). r.relay) w.tries.0 ∙ same,
    )

limits_old : (new : WaitingRelay) (outs : Outs) → WritesLimits giver_setup hears_giver.held 2 2 narrow new outs →
    (relay_bytes giver_setup outs ≡ old_written 2 4) × (new ≡ hears_giver.held)
limits_old new outs w =
    let heard : RelayValue = hears_giver.held.relay in
    let same : w.learnt ≡ heard = stays heard w.learnt (λ h. absurd (omega (arith, h.caught_up 0 (omega arith)))) w.looks in (
      bytes_of giver_setup outs (receipt_outs 4 2 2 ++ []) _
          (w.replied ∙ (ap (λ (r : RelayValue). receipt_outs 4 2 2 ++ (bid_again_outs heard r ++ w.waiting_reply)) same
          ∙ ap (λ (l : Outs). receipt_outs 4 2 2 ++ l) w.tries.1)) refl,
      w.tries.0 ∙ ap (λ (r : RelayValue). record { relay = r; waiting = None }) same,
    )

-- before Hello it stays as it is
stays_closed : (child : ℕ) (terms : RelayTerms) (frame : RelayFrame) (new : Option OpenRelay) → (IsRelayHello frame → ⊥) →
    ComesUp child terms frame new →
    new ≡ None
stays_closed child terms (to_relay.Child (Hello basis)) new others up = absurd (others tt)
stays_closed child terms (to_relay.Child (Bid sender number demand)) new others up = up
stays_closed child terms (to_relay.Child (Gone sender number)) new others up = up
stays_closed child terms (to_relay.Child Clear) new others up = up
stays_closed child terms (to_relay.Parent frame) new others up = up
stays_closed child terms to_relay.Send new others up = up
stays_closed child terms (to_relay.Expire sender) new others up = up
stays_closed child terms (to_relay.Limits number limits) new others up = up
stays_closed child terms (to_relay.Bound sender bound) new others up = up
stays_closed child terms (to_relay.Resume stored) new others up = up

-- ---- the rows

-- the number 3 may come again, and its index is new
may_hear : MayHearRecord (back wide 3 2 holds_one) 3
unfolding suffices
may_hear = record { newest = refl; nothing_newer = enough (child_numbers 1 4) holds_one.heads refl }

is_new : (old : RelayValue) (p : PriceUpdate) → old.index < p.index → 1 ≤ p.number → old.answered ≤ p.number →
    p.number ≤ newest_bid_number old →
    IsNewPrice old p
is_new old p newer one from to = record { newer = newer; one = one; from = from; to = to }

-- a price that waits is tried again behind what is answered to Send
waits_on_is : (new : WaitingRelay) (outs : Outs) → WritesSend wide_setup (hears_one (Some (price_of_three 7 1))).held new outs →
    (relay_bytes wide_setup outs ≡ 17 ∷ []) × (new ≡ (hears_one (Some (price_of_three 7 1))).held)
waits_on_is new outs w =
    let held : WaitingRelay = (hears_one None).held in
    let said = lacks wide_setup held.relay w.asked w.first (λ c. absurd (omega (arith, c 1 (omega arith)))) w.answers in
    let waited = it_waits wide_setup held (price_of_three 7 1) new w.waiting_reply
    (is_new held.relay (price_of_three 7 1) (omega arith) (omega arith) (omega arith) (omega arith)) (omega arith) may_hear
    (subst (λ (r : RelayValue). WritesPrice wide_setup (record { relay = r; waiting = None }) (price_of_three 7 1) new w.waiting_reply) said.1 w.tries) in (
      bytes_of wide_setup outs (Says (not_sent_reply NotCaughtUp) ∷ []) (17 ∷ [])
          (w.replied ∙ (ap (λ (l : Outs). l ++ w.waiting_reply) said.0
          ∙ ap (λ (l : Outs). Says (not_sent_reply NotCaughtUp) ∷ l) waited.0)) refl,
      waited.1,
    )

waits_row : (waiting : Option PriceUpdate) (index step : ℕ) (bytes : List ℕ) → 6 < index →
    relay_bytes wide_setup (drop_outs waiting (price_of_three index step)) ≡ bytes →
    RelayTurns (hears_one waiting) (price_three 3 index step) bytes (hears_one (waiting_with waiting (price_of_three index step)))
waits_row waiting index step bytes above is =
    turns (hears_one waiting) (price_three 3 index step) bytes (hears_one (waiting_with waiting (price_of_three index step))) refl refl (λ new outs did.
    let found = it_waits wide_setup (hears_one waiting).held (price_of_three index step) new outs
    (is_new (back wide 3 2 holds_one) (price_of_three index step) above (omega arith) (omega arith) (omega arith)) (omega arith) may_hear
    (told wide_setup (hears_one waiting).held (price_of_three index step) new outs did) in
    (bytes_of wide_setup outs (drop_outs waiting (price_of_three index step)) bytes found.0 is, found.1))

drops_row : (old : RelayValue) (number index : ℕ) (bytes : List ℕ) →
    (IsNewPrice old (record { step = 1; number = number; index = index }) → ⊥) →
    relay_bytes wide_setup (Says (dropped_bytes number index) ∷ []) ≡ bytes →
    RelayTurns (open_relay_with wide_setup old None) (price_three number index 1) bytes (open_relay_with wide_setup old None)
drops_row old number' index' bytes not_new is =
    let held : WaitingRelay = record { relay = old; waiting = None } in
    let p : PriceUpdate = record { step = 1; number = number'; index = index' } in
    let service : OpenRelay = open_relay_with wide_setup old None in
    turns service (price_three number' index' 1) bytes service refl refl (λ new outs did.
    let found = it_drops wide_setup held p new outs not_new (told wide_setup held p new outs did) in
    (bytes_of wide_setup outs (Says (dropped_bytes number' index') ∷ []) bytes found.0 is, found.1))

-- the rows of a relay
pub relay_rows : RelayRows
relay_rows = record {
  before_hello = λ child' terms' frame new reply a. (
    a.written,
    λ others. same_service new (new_relay_service child' terms') a.child a.terms (stays_closed child' terms' frame new.relay others a.writes.0),
  );
  begins = record {
    gathered = record {
      cache = refl;
      window = record { children = refl; steps = refl; answered = refl; last = refl; opening = refl };
      limits = refl;
      announced = refl;
    };
    base = refl;
    answered = refl;
    index = refl;
    recorded = refl;
    made_under = refl;
  };
  waits = waits_row None 7 1 [] (omega arith) refl;
  newer_waits = waits_row (Some (price_of_three 7 1)) _ _ _ (omega arith) refl;
  older_comes = waits_row _ _ _ _ (omega arith) refl;
  same_comes = waits_row (Some (price_of_three 7 1)) 7 0 _ (omega arith) refl;
  other_basis = λ old' child' number' index' step' basis' new reply other a.
      (turns old' (to_relay.Parent (Price child' number' index' step' basis')) (other_basis_bytes number' index') old' refl refl (λ held outs did. elim did [
        | inl taken ↦ absurd (other taken.0)
        | inr refused ↦ (ap (λ (l : Outs). relay_bytes old'.setup l) refused.1.1 ∙ append-nil (other_basis_bytes number' index'), refused.1.0)
      ])).any new reply a;
  not_newer = drops_row (back wide 3 2 holds_one) 3 6 _ (λ h. absurd (omega (arith, h.newer))) refl;
  too_old = drops_row (back wide 3 2 holds_one) 1 7 _ (λ h. absurd (omega (arith, h.from))) refl;
  unknown = drops_row has_record 4 7 _ (λ h. absurd (omega (arith, h.to))) refl;
  alone = turns (hears_one None) (price_three 2 7 1) _ _ refl refl (λ new outs did.
      let p : PriceUpdate = record { step = 1; number = 2; index = 7 } in
      let taken = is_alone wide_setup (hears_one None).held p new outs
      (is_new (back wide 3 2 holds_one) p (omega arith) (omega arith) (omega arith) (omega arith)) (omega arith)
      (λ h. absurd (omega (arith, h.newest))) (told wide_setup (hears_one None).held p new outs did) in
      (ap (λ (l : Outs). relay_bytes wide_setup l) taken.0, taken.1));
  passes = says hears_all (price_three 3 7 1) passed_bytes (λ new outs did.
      goes_down has_record None new outs has_it (told wide_setup hears_all.held (price_of_three 7 1) new outs did));
  again = says (hears_one None) (second_bids 4) (relay_bid_written 3 sum_field) bids_again;
  again_passes = says (hears_one (Some (price_of_three 7 1))) (second_bids 4) (relay_bid_written 3 sum_field ++ passed_bytes) bids_and_passes;
  let_go_again = says hears_one_without (to_relay.Expire 2) (relay_bid_written 3 first_field) let_go_again_is;
  never_again = turns (hears_one (Some (price_of_three 7 1))) (second_bids 5) _ _ refl refl never_is;
  let_go = turns (hears_one (Some (price_of_three 7 1))) (to_relay.Expire 2) _ _ refl refl let_go_is;
  old = turns hears_all (second_bids 4) _ hears_all refl refl old_is;
  counts_gone = turns hears_all (to_relay.Child (Gone 2 6)) [] _ refl refl gone_is;
  ignores_old = turns hears_all (to_relay.Parent (Old 3 4)) [] hears_all refl refl (λ new outs did.
      (ap (λ (l : Outs). relay_bytes wide_setup l) did.1, did.0));
  bound = turns hears_all (to_relay.Bound 2 small_bound) [] hears_bounded refl refl (λ new outs did.
      (ap (λ (l : Outs). relay_bytes wide_setup l) did.1, did.0));
  too_much = turns hears_bounded (second_bids 6) _ hears_bounded refl refl too_much_is;
  not_caught_up = turns (hears_one None) to_relay.Send (17 ∷ []) (hears_one None) refl refl (refuses wide_setup (back wide 3 2 holds_one)
      NotCaughtUp
      (17 ∷ []) refl (λ asked first. lacks wide_setup (back wide 3 2 holds_one) asked first (λ c. absurd (omega (arith, c 1 (omega arith))))));
  waits_on = turns (hears_one (Some (price_of_three 7 1))) to_relay.Send (17 ∷ []) _ refl refl waits_on_is;
  not_changed = turns hears_all to_relay.Send (6 ∷ []) hears_all refl refl (refuses wide_setup has_record NotChanged (6 ∷ []) refl
      (λ asked first. still wide_setup has_record asked first record_caught refl));
  window_full = turns (hears_newer wide 10 2) to_relay.Send (10 ∷ []) (hears_newer wide 10 2) refl refl (refuses wide_setup (newer wide 10 2)
      WindowFull (10 ∷ []) refl (λ asked first. full wide_setup (newer wide 10 2) asked first (newer_caught wide 10 2) (newer_changed wide 10 2)
      (omega arith)));
  out_of_numbers = λ new reply a.
      let w = a.writes.2.held in
      let same = send_is wide_setup spent a.writes.0.held a.outs w in
      elim (out_of_is w.asked w.first w.answers) [
        | inl said ↦ inl (a.written ∙ ap (λ (l : Outs). relay_bytes wide_setup l) (same.0 ∙ said))
        | inr beyond ↦ inr (
          a.writes.0,
          a.writes.1,
          subst (λ (r : WaitingRelay). 2 ^ 32 ≤ newest_bid_number r.relay) (sym same.1) beyond,
        )
      ];
  sends = says (hears_newer wide 3 2) to_relay.Send _ sends_is;
  out_of_limits = says (hears_newer narrow 3 2) to_relay.Send _ out_of_limits_is;
  given_none = λ relay' new reply a.
      let found = none_given (record { relay = relay'; waiting = None }) a.writes.0.held a.outs a.writes.2.held in (
        a.written ∙ ap (λ (l : Outs). relay_bytes giver_setup l) found.0,
        a.writes.0,
        same_service new (serves a.writes.0) (a.child ∙ ap (λ (s : RelaySetup). s.child) (sym a.writes.2.setup))
            (a.terms ∙ ap (λ (s : RelaySetup). s.terms) (sym a.writes.2.setup)) a.writes.1,
        found.1,
        found.2,
      );
  given = λ new reply a.
      let found = limits_given a.writes.0.held a.outs a.writes.2.held in (
        a.written ∙ ap (λ (l : Outs). relay_bytes giver_setup l) found.0,
        a.writes.0,
        same_service new (serves a.writes.0) (a.child ∙ ap (λ (s : RelaySetup). s.child) (sym a.writes.2.setup))
            (a.terms ∙ ap (λ (s : RelaySetup). s.terms) (sym a.writes.2.setup)) a.writes.1,
        ap (λ (r : RelayValue). r.gathered.limits) found.1,
        ap (λ (r : RelayValue). kept_number r.gathered.cache 1) found.1,
      );
  given_old = turns hears_giver (to_relay.Limits 2 narrow) _ hears_giver refl refl limits_old;
}

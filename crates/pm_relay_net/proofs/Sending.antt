-- A relay sends a bid, refuses to, or sends its newest one again.
use Rattle.std.proofs.Common.{◌≡◌, ◌∙◌, sym, ap, subst, ℕ, ◌+◌, ◌-◌, ◌<◌, ◌≤◌, Bool, true, false}
use Rattle.std.proofs.Common.{not, ltb, leb, eqb, ◌&&◌, ◌||◌, List, [], ◌∷◌, ◌++◌}
use Rattle.std.proofs.Common.{length, get_or, Some, arith, inl, inr, refl, ◌⊎◌, cond}
use Rattle.std.specs.Prelude.{unwrap_or}
use Rattle.std.proofs.lemmas.Bool.{cases_eq, cases_Bool, cases_lt, and_parts, and_from, ltb-true, lt-ltb, le-leb, leb-true, eqb-true}
use Rattle.std.proofs.lemmas.Bool.{not_from_false, both_ways}
use Rattle.std.proofs.lemmas.Bool.{false_from_ne_true, cond-true, cond-false, not-false}
use Rattle.pm_base.specs.Cuts.{Cut}
use Rattle.pm_base.specs.Limits.{window_size, most_nodes}
use Rattle.pm_bid.specs.Heads.{nothing_sent}
use Rattle.pm_bid.specs.Taken.{announced}
use Rattle.pm_bid.specs.declared.head.BidHead.{BidHead}
use Rattle.pm_cache.specs.Cache.{Cache, aggregate_of}
use Rattle.pm_market.specs.Lists.{Lists, parent, is_leaf, changes, IsNode, IsConcentrator, Lawful}
use Rattle.pm_market.specs.State.{State, cut_at, number}
use Rattle.pm_market.specs.Legality.{is_node}
use Rattle.pm_market.proofs.Legality.{is_node_at}
use Rattle.pm_market.proofs.Cuts.{updated_same, entry_zero, part_zero}
use Rattle.pm_laws.proofs.Gone.{gone_zero}
use Rattle.pm_laws.proofs.Numbers.{number_of_part}
use Rattle.pm_session.specs.Windows.{Sent, Keeps, record_of}
use Rattle.pm_concentrator.specs.Concentrators.{own_demand, published_heads}
use Rattle.pm_concentrator.specs.Limited.{sum_kept}
use Rattle.pm_net.specs.Pricing.{Pricing, LimitsGoByDevices}
use Rattle.pm_net.specs.Messages.{BidMessage, bid_message, numbers_of}
use Rattle.pm_net.specs.Network.{Network}
use Rattle.pm_net.specs.Running.{is_caught_up, has_news, can_send, heard_sum, relay_bid, after_sending, recorded_number}
use Rattle.pm_net.specs.Restarts.{can_resend, newest_bid, after_resending, device_stopped, relay_stopped}
use Rattle.pm_net.specs.Events.{network_step, may_bid, Sends, Resends, StopsBidding}
use Rattle.pm_net.specs.Agrees.{bid_of_number, NetworkAgrees}
use Rattle.pm_net.proofs.Messages.{two_same, two_other}
use Rattle.pm_net.proofs.News.{level, child_from}
use Rattle.pm_net_plan.specs.Places.{Numbering, IsNumbering}
use Rattle.pm_relay.specs.Numbers.{head_number, IsCaughtUp}
use Rattle.pm_relay.specs.Relays.{RelayValue, newest_bid_number, limits_of_number, HasChanged, unanswered_numbers, BidSent, NotSent}
use Rattle.pm_relay.specs.declared.fault.SendFault.{SendFault}
use Rattle.pm_relay.specs.declared.fault.SendFault.TheVariants.{NotCaughtUp, NotChanged, WindowFull, OutOfNumbers}
use Rattle.pm_relay_net.specs.Heads.{bid_head, head_in, heads_of, AddsByPlaces}
use Rattle.pm_relay_net.specs.RelayIs.{MatchesNode, RelayIs}
use Rattle.pm_relay_net.proofs.Places.{heads_of-same, in_each_place, heads_of-at, heads_of-none}
use Rattle.pm_relay_net.proofs.LeftAlone.{relay_stays}
use Rattle.pm_relay_net.proofs.Matching.{recorded_at, heard_at, caught_to, caught_from, over_to, nothing_newer, sum_is}

-- the newest record of a relay that has one
module _ (lists : Lists) (p : Pricing) (numbering : Numbering) (net : Network) (c : ℕ) (r : RelayValue) (m : MatchesNode p numbering net c r)
    (some : 1 ≤ r.gathered.window.last) where
  last_kept : Keeps r.gathered.window r.gathered.window.last
  last_kept = record { one = some; from = omega (arith, m.window, m.order); to = omega arith }

  -- the heads of its newest record are those that the network has
  pub published_is : published_heads r.gathered ≡ heads_of numbering c (net.records c (net.last_number c))
  published_is = m.record_heads r.gathered.window.last last_kept
      ∙ ap (λ (i : ℕ). heads_of numbering c (net.records c i)) (omega (arith, m.newest))

  -- the network has that record whole
  pub is_whole : net.whole_from c ≤ net.last_number c
  is_whole = omega (arith, m.newest, m.base, some)

module _ (lists : Lists) (law : Lawful lists) (p : Pricing) (numbering : Numbering) (is : IsNumbering lists numbering) (net : Network) (s : State)
    (agrees : NetworkAgrees lists p net s) (c : ℕ) (conc : IsConcentrator lists c) (r : RelayValue) (was : RelayIs p numbering net c r) where
  m : MatchesNode p numbering net c r
  m = was.matches

  -- where the heads are those that were published, and the relay is caught up, no child's number is another one
  over_level : (some : Bool) → ltb 0 r.gathered.window.last ≡ some → IsCaughtUp r.recorded r.gathered.cache.heads →
      r.gathered.cache.heads ≡ published_heads r.gathered →
      (x : ℕ) → IsNode lists x → parent lists x ≡ c → (net.heard x).number ≤ recorded_number net c x
  over_level true e caught same x node up =
      let heads : r.gathered.cache.heads ≡ heads_of numbering c (net.records c (net.last_number c)) =
      same ∙ published_is lists p numbering net c r m (omega (arith, ltb-true 0 r.gathered.window.last e)) in
      omega (
        arith,
        heard_at lists p numbering is net c r m x node up,
        ap (λ (l : List BidHead). head_number l (numbering.place x)) heads,
        m.recorded (numbering.place x) (is.inside x node),
        recorded_at lists p numbering is net c r m x node up,
      )
  over_level false e caught same x node up =
      let zero : r.gathered.window.last ≡ 0 = elim (cases_lt 0 r.gathered.window.last) [
        | inl lt ↦ absurd (both_ways (ltb 0 r.gathered.window.last) e (lt-ltb 0 r.gathered.window.last lt))
        | inr ge ↦ omega (arith, ge)
      ] in
      let nothing : head_number r.gathered.cache.heads (numbering.place x) ≡ 0 =
      ap (λ (l : List BidHead). head_number l (numbering.place x)) (same ∙ m.opening zero)
      ∙ ap (λ (h : BidHead). h.number) (Rattle.std.proofs.lemmas.List.get_or-replicate most_nodes (numbering.place x) nothing_sent nothing_sent
      (omega (arith, is.inside x node, Rattle.std.proofs.lemmas.List.length-replicate {A = BidHead} most_nodes nothing_sent))) in
      omega (arith, heard_at lists p numbering is net c r m x node up, nothing)

  -- a relay that is caught up, and heard nothing but what is in its newest bid, has no news
  pub no_news : IsCaughtUp r.recorded r.gathered.cache.heads → r.gathered.cache.heads ≡ published_heads r.gathered → has_news lists net c ≡ false
  no_news caught same = level lists net c (caught_to lists p numbering is net c r m caught)
      (over_to lists p numbering is net c r m (nothing_newer lists p numbering is net c r m
      (over_level (ltb 0 r.gathered.window.last) refl caught same)))

  -- without news each child's number is the recorded one
  equal : has_news lists net c ≡ false → (x : ℕ) → IsNode lists x → parent lists x ≡ c → (net.heard x).number ≡ recorded_number net c x
  unfolding has_news
  equal none x node up = eqb-true (net.heard x).number (recorded_number net c x)
      (child_from lists c (λ x. eqb (net.heard x).number (recorded_number net c x))
      (not-false (Rattle.pm_net.specs.Running.all_children lists c (λ x. eqb (net.heard x).number (recorded_number net c x))) none) x node up)

  -- so what is heard of it is its recorded bid, where the record is whole
  same_bid : has_news lists net c ≡ false → net.whole_from c ≤ net.last_number c → (x : ℕ) → IsNode lists x → parent lists x ≡ c →
      net.heard x ≡ net.records c (net.last_number c) x
  same_bid none whole x node up =
      let n : ℕ = net.last_number c in
      let at : ℕ = number lists s x (cut_at (s.published (parent lists x)) n) in
      let len : n ≡ length (s.published (parent lists x)) =
      agrees.last_number c conc.2 ∙ ap (λ (y : ℕ). length (s.published y)) (sym up) in
      let record_is : net.records c n x ≡ bid_of_number lists p s x at =
      ap (λ (y : ℕ). net.records y n x) (sym up)
      ∙ agrees.records x n node (omega (arith, whole, ap net.whole_from up)) (omega (arith, len)) in
      let numbers : (net.heard x).number ≡ at = equal none x node up ∙ ap (λ (b : BidMessage). b.number) record_is in
      (agrees.heard x node).1 ∙ ap (bid_of_number lists p s x) numbers ∙ sym record_is

  -- before the first bid nothing is recorded
  none_recorded : net.last_number c ≡ 0 → (x : ℕ) → IsNode lists x → parent lists x ≡ c → recorded_number net c x ≡ 0
  none_recorded zero x node up =
      let y : ℕ = parent lists x in
      let len : length (s.published y) ≡ 0 = ap (λ (z : ℕ). length (s.published z)) up ∙ sym (agrees.last_number c conc.2) ∙ zero in
      let cut : Cut = cut_at (s.published y) (length (s.published y)) in
      ap (λ (z : ℕ). recorded_number net z x) (sym up) ∙ agrees.newest_numbers x node ∙ agrees.learnt x node
      ∙ number_of_part lists law s agrees.sound x 0 cut node (omega arith) (λ d leaf.
      ap (λ (i : ℕ). cut_at (s.published y) i d) len ∙ ap (λ (a : Cut). a d) (entry_zero (s.published y)) ∙ sym (part_zero lists s.published x d))

  -- without news the heads are those that were published
  unchanged : (some : Bool) → ltb 0 r.gathered.window.last ≡ some → IsCaughtUp r.recorded r.gathered.cache.heads →
      HasChanged r → has_news lists net c ≡ false → ⊥
  unchanged true e caught changed none =
      let one : 1 ≤ r.gathered.window.last = omega (arith, ltb-true 0 r.gathered.window.last e) in
      changed (m.heads ∙ heads_of-same lists numbering is c net.heard (net.records c (net.last_number c))
      (same_bid none (is_whole lists p numbering net c r m one)) ∙ sym (published_is lists p numbering net c r m one))
  unchanged false e caught changed none =
      let zero : r.gathered.window.last ≡ 0 = elim (cases_lt 0 r.gathered.window.last) [
        | inl lt ↦ absurd (both_ways (ltb 0 r.gathered.window.last) e (lt-ltb 0 r.gathered.window.last lt))
        | inr ge ↦ omega (arith, ge)
      ] in
      elim (cases_lt 0 r.base) [
        | inl lt ↦ was.rebuilt (record {
          came_back = lt;
          lost = zero;
          caught_up = caught;
          nothing_newer = nothing_newer lists p numbering is net c r m (λ x node up. omega (arith, equal none x node up));
          changed = changed;
        })
        | inr ge ↦
            let start : net.last_number c ≡ 0 = omega (arith, m.newest, zero, ge) in
            changed (m.heads ∙ heads_of-none numbering c net.heard (λ k inside. all_nothing start k inside) ∙ sym (m.opening zero))
      ]
    where
      all_nothing : net.last_number c ≡ 0 → (k : ℕ) → k < most_nodes → head_in numbering c net.heard k ≡ nothing_sent
      all_nothing start k inside =
          sym (heads_of-at numbering c net.heard k inside)
          ∙ in_each_place lists numbering is c (λ i. get_or (heads_of numbering c net.heard) i nothing_sent ≡ nothing_sent)
          (λ i within no. heads_of-at numbering c net.heard i within
          ∙ cond-true (eqb (numbering.child c i) 0) nothing_sent (bid_head (net.heard (numbering.child c i)))
          (Rattle.std.proofs.lemmas.Bool.eq-eqb (numbering.child c i) 0 no))
          (λ x node up. ap (λ (y : ℕ). get_or (heads_of numbering y net.heard) (numbering.place x) nothing_sent) (sym up)
          ∙ Rattle.pm_relay_net.proofs.Places.head_there lists numbering is net.heard x node
          ∙ ap bid_head ((agrees.heard x node).1 ∙ ap (bid_of_number lists p s x) (equal none x node up ∙ none_recorded start x node up))
          ∙ ap (λ (g : Bool). record { number = 0; gone = g }) (gone_zero lists x))
          k inside

  news : IsCaughtUp r.recorded r.gathered.cache.heads → HasChanged r → has_news lists net c ≡ true
  news caught changed = elim (cases_Bool (has_news lists net c)) [
    | inl e ↦ e
    | inr e ↦ absurd (unchanged (ltb 0 r.gathered.window.last) refl caught changed e)
  ]

  room_is : unanswered_numbers r ≡ net.last_number c - net.answered c
  room_is = ap (λ (n : ℕ). n - r.answered) m.newest ∙ ap (λ (n : ℕ). net.last_number c - n) m.answered

  abbrev tests : Bool
  tests = is_node lists c && not (is_leaf lists c) && is_caught_up lists net c && has_news lists net c

  -- what a node that sends passes
  parts : can_send lists net c ≡ true → (is_caught_up lists net c ≡ true) × (has_news lists net c ≡ true)
      × (net.last_number c - net.answered c < window_size)
  unfolding can_send
  parts e =
      let a = and_parts tests (ltb (net.last_number c - net.answered c) window_size) e in
      let b = and_parts (is_node lists c && not (is_leaf lists c) && is_caught_up lists net c) (has_news lists net c) a.0 in
      let d = and_parts (is_node lists c && not (is_leaf lists c)) (is_caught_up lists net c) b.0 in
      (d.1, b.1, ltb-true (net.last_number c - net.answered c) window_size a.1)

  stays : (can_send lists net c ≡ true → ⊥) → network_step lists p net (Sends c) ≡ net
  stays cannot = cond-false (can_send lists net c) (after_sending p net c) net (false_from_ne_true (can_send lists net c) cannot)

  -- where a relay refuses, the node may not send either, or numbers are at their end
  pub refuses : (fault : SendFault) → NotSent r fault → (fault ≡ OutOfNumbers) ⊎ (network_step lists p net (Sends c) ≡ net)
  refuses NotCaughtUp why = inr (stays (λ e. why (caught_from lists p numbering is net c r m (parts e).0)))
  refuses NotChanged why = inr (stays (λ e. both_ways (has_news lists net c) (no_news why.0 why.1) (parts e).1))
  refuses WindowFull why = inr (stays (λ e. omega (arith, (parts e).2, room_is, why.2)))
  refuses OutOfNumbers why = inl refl

  -- a relay that sends does what the network's relay does
  module _ (adds : AddsByPlaces p numbering) (new : RelayValue) (number' : ℕ) (did : BidSent r new number') where
    can : can_send lists net c ≡ true
    unfolding can_send
    can = and_from tests (ltb (net.last_number c - net.answered c) window_size)
        (and_from (is_node lists c && not (is_leaf lists c) && is_caught_up lists net c) (has_news lists net c)
        (and_from (is_node lists c && not (is_leaf lists c)) (is_caught_up lists net c)
        (and_from (is_node lists c) (not (is_leaf lists c)) (is_node_at lists c (conc.0, conc.1)) (not_from_false (is_leaf lists c) conc.2))
        (caught_to lists p numbering is net c r m did.caught_up)) (news did.caught_up did.made.changed))
        (lt-ltb (net.last_number c - net.answered c) window_size (omega (arith, did.room, room_is)))

    abbrev n : ℕ
    n = net.last_number c + 1

    abbrev net' : Network
    net' = after_sending p net c

    number_is : number' ≡ n
    number_is = omega (arith, did.number, m.newest)

    last_is : new.gathered.window.last ≡ r.gathered.window.last + 1
    last_is = did.made.sent.last

    heard_is : (k : ℕ) → k ≡ n → net'.records c k ≡ net.heard
    heard_is k at = two_same net.records c n net.heard c k refl at

    kept_is : (k : ℕ) → (k ≡ n → ⊥) → net'.records c k ≡ net.records c k
    kept_is k ne = two_other net.records c n net.heard c k (λ e f. ne f)

    last_number_is : net'.last_number c ≡ n
    last_number_is = updated_same net.last_number c n

    sum_at : (k : ℕ) → k ≡ n → aggregate_of r.gathered.cache ≡ p.add c (λ z. (net'.records c k z).demand)
    sum_at k at = sum_is lists p numbering is net c r m adds ∙ ap (λ (f : ℕ → BidMessage). p.add c (λ z. (f z).demand)) (sym (heard_is k at))

    older : (k : ℕ) → Keeps new.gathered.window k → (k ≡ r.gathered.window.last + 1 → ⊥) → Keeps r.gathered.window k
    older k keeps ne = record { one = keeps.one; from = omega (arith, keeps.from, did.made.sent.answered); to = omega (arith, keeps.to, last_is, ne) }

    new_heads : (k : ℕ) → k ≡ r.gathered.window.last + 1 → (record_of new.gathered.window k).heads ≡ heads_of numbering c net.heard
    new_heads k at = ap (λ (i : ℕ). (record_of new.gathered.window i).heads) at ∙ ap (λ (q : Sent). q.heads) did.made.sent.at ∙ m.heads

    new_sum : (k : ℕ) → k ≡ r.gathered.window.last + 1 → (record_of new.gathered.window k).sum ≡ Some (aggregate_of r.gathered.cache)
    new_sum k at = ap (λ (i : ℕ). (record_of new.gathered.window i).sum) at ∙ ap (λ (q : Sent). q.sum) did.made.sent.at
        ∙ ap (λ l. sum_kept l (aggregate_of r.gathered.cache)) (m.limits ∙ m.limited.1)

    limits_at : (k : ℕ) → k ≡ n → r.gathered.limits ≡ p.limits c (numbers_of (net'.records c k))
    limits_at k at = m.limits ∙ ap (λ (f : ℕ → BidMessage). p.limits c (numbers_of f)) (sym (heard_is k at))

    new_under : (k : ℕ) → k ≡ n → limits_of_number new k ≡ p.limits c (numbers_of (net'.records c k))
    new_under k at = ap (limits_of_number new) (at ∙ sym number_is) ∙ did.made_under ∙ limits_at k at

    -- after its bid the relay is what the network has of the node
    pub sent_is : RelayIs p numbering net' c new
    sent_is = record {
      matches = record {
        steps = ap (λ (w : Cache). w.steps) did.made.cache ∙ m.steps;
        limits = did.made.limits ∙ m.limits;
        limited = m.limited;
        made_under = λ k keeps. elim (cases_eq k (r.gathered.window.last + 1)) [
          | inl e ↦ new_under (new.base + k) (omega (arith, did.base, e, m.newest))
          | inr ne ↦
              let old : Keeps r.gathered.window k = older k keeps ne in
              ap (λ (i : ℕ). limits_of_number new (i + k)) did.base
              ∙ did.kept_under (r.base + k) (omega (arith, old.from, m.window)) (omega (arith, old.to))
              ∙ m.made_under k old
              ∙ ap (λ (f : ℕ → BidMessage). p.limits c (numbers_of f)) (sym (kept_is (r.base + k) (λ e. ne (omega (arith, e, m.newest)))))
              ∙ ap (λ (i : ℕ). p.limits c (numbers_of (net'.records c (i + k)))) (sym did.base)
        ];
        newest_under = new_under (net'.last_number c) last_number_is;
        heads = ap (λ (w : Cache). w.heads) did.made.cache ∙ m.heads;
        demands = ap (λ (w : Cache). w.demands) did.made.cache ∙ m.demands;
        newest = omega (arith, did.base, last_is, m.newest, last_number_is);
        children = did.children ∙ m.children;
        recorded = λ k inside. did.numbers k inside
            ∙ ap (λ (l : List BidHead). head_number l k) (m.heads ∙ ap (heads_of numbering c) (sym (heard_is (net'.last_number c) last_number_is)));
        answered = did.answered ∙ m.answered;
        index = did.index ∙ m.index;
        base = did.base ∙ m.base;
        record_heads = λ k keeps. elim (cases_eq k (r.gathered.window.last + 1)) [
          | inl e ↦ new_heads k e ∙ ap (heads_of numbering c) (sym (heard_is (new.base + k) (omega (arith, did.base, e, m.newest))))
          | inr ne ↦
              let old : Keeps r.gathered.window k = older k keeps ne in
              ap (λ (q : Sent). q.heads) (did.made.sent.others k old) ∙ m.record_heads k old
              ∙ ap (heads_of numbering c) (sym (kept_is (r.base + k) (λ e. ne (omega (arith, e, m.newest)))))
              ∙ ap (λ (i : ℕ). heads_of numbering c (net'.records c (i + k))) (sym did.base)
        ];
        record_sum = λ k keeps. elim (cases_eq k (r.gathered.window.last + 1)) [
          | inl e ↦ new_sum k e ∙ ap Some (sum_at (new.base + k) (omega (arith, did.base, e, m.newest)))
          | inr ne ↦
              let old : Keeps r.gathered.window k = older k keeps ne in
              ap (λ (q : Sent). q.sum) (did.made.sent.others k old) ∙ m.record_sum k old
              ∙ ap (λ (f : ℕ → BidMessage). Some (p.add c (λ z. (f z).demand))) (sym (kept_is (r.base + k) (λ e. ne (omega (arith, e, m.newest)))))
              ∙ ap (λ (i : ℕ). Some (p.add c (λ z. (net'.records c (i + k) z).demand))) (sym did.base)
        ];
        opening = λ e. absurd (omega (arith, e, last_is));
        window = omega (arith, did.made.sent.answered, m.window, did.answered, did.base);
        order = omega (arith, m.order, did.answered, did.base, last_is);
        demand = λ some. did.announced ∙ ap Some (ap (λ l. announced l (aggregate_of r.gathered.cache)) (limits_at (net'.last_number c) last_number_is)
            ∙ ap (announced (p.limits c (numbers_of (net'.records c (net'.last_number c))))) (sum_at (net'.last_number c) last_number_is));
      };
      rebuilt = λ again. omega (arith, again.lost, last_is);
    }

    bid_is : relay_bid p net c ≡ bid_message number' false (own_demand new.gathered)
    bid_is =
        ap (λ l. bid_message n false (announced l (heard_sum p net c))) (sym m.limits)
        ∙ ap (λ v. bid_message n false (announced r.gathered.limits v)) (sym (sum_is lists p numbering is net c r m adds))
        ∙ ap (bid_message n false) (sym did.made.demand) ∙ ap (λ (k : ℕ). bid_message k false (own_demand new.gathered)) (sym number_is)

    step_is : network_step lists p net (Sends c) ≡ net'
    step_is = cond-true (can_send lists net c) net' net can

    -- the relay and what goes up are the network's
    pub sends : RelayIs p numbering (network_step lists p net (Sends c)) c new
        × ((network_step lists p net (Sends c)).bids_sent c ≡ net.bids_sent c ++ bid_message number' false (own_demand new.gathered) ∷ [])
    sends = (
      subst (λ (w : Network). RelayIs p numbering w c new) (sym step_is) sent_is,
      ap (λ (w : Network). w.bids_sent c) step_is ∙ updated_same net.bids_sent c (net.bids_sent c ++ relay_bid p net c ∷ [])
          ∙ ap (λ (b : BidMessage). net.bids_sent c ++ b ∷ []) bid_is,
    )

    -- so is the relay if it stops before the bid is sent
    pub stops : LimitsGoByDevices lists p.limits → RelayIs p numbering (network_step lists p net (StopsBidding c)) c new
    stops alike =
        let Is : Network → Type 0 = λ w. RelayIs p numbering w c new in
        let sends_or_not : Network = cond (can_send lists net c) (relay_stopped net c) net in
        subst Is (sym (cond-false (may_bid lists net c) (device_stopped net c) sends_or_not
        (ap (λ (b : Bool). b && ltb (net.counts c) (changes lists c)) conc.2)
        ∙ cond-true (can_send lists net c) (relay_stopped net c) net can))
        (relay_stays lists p numbering is alike net' (relay_stopped net c) c new
        (record { heard = λ x node up. refl; last_number = refl; records = refl; whole_from = refl; answered = refl; taken = refl }) sent_is)

-- a relay that has its newest record sends its newest bid again as the node does
pub sends_again : (lists : Lists) (p : Pricing) (numbering : Numbering) (net : Network) (c : ℕ) (r : RelayValue) → IsConcentrator lists c →
    MatchesNode p numbering net c r → 1 ≤ r.gathered.window.last →
    (network_step lists p net (Resends c)).bids_sent c ≡ net.bids_sent c ++ bid_message (newest_bid_number r) false (own_demand r.gathered) ∷ []
unfolding can_resend
sends_again lists p numbering net c r conc m some =
    let whole : Bool = leb (net.whole_from c) (net.last_number c) && leb 1 (net.last_number c) in
    let may : can_resend lists net c ≡ true = and_from (is_node lists c) (is_leaf lists c || whole) (is_node_at lists c (conc.0, conc.1))
    (ap (λ (b : Bool). is_leaf lists c || b) (and_from (leb (net.whole_from c) (net.last_number c)) (leb 1 (net.last_number c))
    (le-leb (net.whole_from c) (net.last_number c) (is_whole lists p numbering net c r m some)) (le-leb 1 (net.last_number c) (omega (arith, m.newest, some))))
    ∙ or_true (is_leaf lists c)) in
    let demand : own_demand r.gathered ≡ announced (p.limits c (numbers_of (net.records c (net.last_number c))))
    (p.add c (λ z. (net.records c (net.last_number c) z).demand)) =
    ap (λ o. unwrap_or o (aggregate_of r.gathered.cache)) (m.demand some) in
    let bid : newest_bid lists p net c ≡ bid_message (newest_bid_number r) false (own_demand r.gathered) =
    cond-false (is_leaf lists c) _ _ conc.2 ∙ ap (bid_message (net.last_number c) false) (sym demand)
    ∙ ap (λ (k : ℕ). bid_message k false (own_demand r.gathered)) (sym m.newest) in
    ap (λ (w : Network). w.bids_sent c) (cond-true (can_resend lists net c) (after_resending lists p net c) net may)
    ∙ updated_same net.bids_sent c (net.bids_sent c ++ newest_bid lists p net c ∷ []) ∙ ap (λ (b : BidMessage). net.bids_sent c ++ b ∷ []) bid
  where
    or_true : (b : Bool) → (b || true) ≡ true
    or_true true = refl
    or_true false = refl

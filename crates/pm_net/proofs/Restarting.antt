-- A node restarts, or a relay has its newest record again: the market makes no move.
use Rattle.std.proofs.Common.{◌≡◌, ◌∙◌, sym, ap, subst, ℕ, ◌+◌, ◌<◌, ◌≤◌, Bool, cond, false, true, not, eqb, ltb, leb}
use Rattle.std.proofs.Common.{arith, inl}
use Rattle.std.proofs.Common.{inr, length, refl}
use Rattle.std.proofs.lemmas.Bool.{cases_eq, cases_lt, and_parts, ltb-true, leb-true, not-true, eq-eqb}
use Rattle.pm_market.specs.Lists.{Lists, parent, IsNode, Lawful}
use Rattle.pm_market.specs.State.{State, update, cut_at, number}
use Rattle.pm_market.proofs.Cuts.{updated_same, updated_other}
use Rattle.pm_laws.proofs.Facts.{updated_at}
use Rattle.pm_net.specs.Pricing.{Pricing, GoesByNodes}
use Rattle.pm_net.specs.Messages.{BidMessage, PriceMessage, nothing_heard, no_price}
use Rattle.pm_net.specs.Network.{Network, sent_price}
use Rattle.pm_net.specs.Running.{recorded_number, has_news}
use Rattle.pm_net.specs.Restarts.{with_restart, stored_price, number_alone, nothing_left, records_left, after_restart}
use Rattle.pm_net.specs.Restarts.{can_rebuild, after_rebuilding}
use Rattle.pm_net.specs.Agrees.{bid_of_number, IsItsBid, HoldsIts, NetworkAgrees, GoesOn}
use Rattle.pm_net.proofs.Agreeing.{still, with_prices, with_bids}
use Rattle.pm_net.proofs.Breaks.{broken, not_restarted, none_before}
use Rattle.pm_net.proofs.Messages.{either, past, two_same, two_other}
use Rattle.pm_net.proofs.Gone.{nothing_is}
use Rattle.pm_net.proofs.News.{no_news}

module _ (lists : Lists) (law : Lawful lists) (p : Pricing) (by : GoesByNodes lists p) (net : Network) (s : State) (agrees : NetworkAgrees lists p net s) where
  module _ (y k : ℕ) where
    abbrev stored : PriceMessage
    stored = stored_price net y k

    stored_within : stored.index ≤ (net.taken y).index
    stored_within = either (λ (q : PriceMessage). q.index ≤ (net.taken y).index) (leb (sent_price net y k).index (net.taken y).index) (sent_price net y k)
        (net.taken y)
        (λ e. leb-true (sent_price net y k).index (net.taken y).index e) (λ e. omega arith)

    stored_its : IsNode lists y → HoldsIts lists p s y stored
    stored_its node = either (HoldsIts lists p s y) (leb (sent_price net y k).index (net.taken y).index) (sent_price net y k) (net.taken y)
        (λ e. elim (cases_lt k (length (net.prices_sent y))) [
          | inl lt ↦ inr (agrees.prices_sent y k node lt)
          | inr ge ↦ inl (past (net.prices_sent y) k no_price ge)
        ]) (λ e. agrees.taken y node)

    abbrev left : ℕ → ℕ → BidMessage
    left = records_left net y

    -- of the newest record the numbers are left
    left_number : (x : ℕ) → (left (net.last_number y) x).number ≡ recorded_number net y x
    left_number x = ap (λ (b : Bool). (cond b (number_alone (net.records y (net.last_number y) x)) nothing_left).number)
        (eq-eqb (net.last_number y) (net.last_number y) refl)

    -- y has an old price
    abbrev with_stored : Network
    with_stored = record net {
      answered = update net.answered y stored.number;
      taken = update net.taken y stored;
      restarts = with_restart net y;
    }

    stored_agrees : NetworkAgrees lists p with_stored s
    stored_agrees = with_prices lists p net s agrees (update net.answered y stored.number) (update net.taken y stored) net.prices_sent (with_restart net y)
        s.passed (λ none. absurd (broken net y none)) (record {
          sound = agrees.sound;
          answered = λ c conc. elim (cases_eq c y) [
            | inl e ↦ ap (update net.answered y stored.number) e ∙ updated_same net.answered y stored.number
                ∙ ap (λ (q : PriceMessage). q.number) (sym (updated_same net.taken y stored))
                ∙ ap (λ (z : ℕ). (update net.taken y stored z).number) (sym e)
            | inr ne ↦ updated_other net.answered y stored.number c ne ∙ agrees.answered c conc
                ∙ ap (λ (q : PriceMessage). q.number) (sym (updated_other net.taken y stored c ne))
          ];
          index = λ x node. elim (updated_at net.taken y stored x) [
            | inl w ↦ omega (
              arith,
              ap (λ (q : PriceMessage). q.index) w.1,
              stored_within,
              ap (λ (z : ℕ). (net.taken z).index) w.0,
              agrees.index x node,
            )
            | inr w ↦ omega (arith, ap (λ (q : PriceMessage). q.index) w.1, agrees.index x node)
          ];
          device_index = λ d leaf none. elim (updated_at net.taken y stored d) [
            | inl w ↦ absurd (not_restarted net y (ap (with_restart net y) (sym w.0) ∙ none))
            | inr w ↦ ap (λ (q : PriceMessage). q.index) w.1 ∙ agrees.device_index d leaf (none_before net y d none)
          ];
          taken = λ x node. elim (updated_at net.taken y stored x) [
            | inl w ↦ subst (HoldsIts lists p s x) (sym w.1)
                (subst (λ (z : ℕ). HoldsIts lists p s z stored) (sym w.0)
                (stored_its (subst (λ (z : ℕ). IsNode lists z) w.0 node)))
            | inr w ↦ subst (HoldsIts lists p s x) (sym w.1) (agrees.taken x node)
          ];
          full = agrees.full;
          last_sent = agrees.last_sent;
          prices_sent = agrees.prices_sent;
          due_root = λ none. absurd (broken net y none);
          due_through = λ x node p_conc at. agrees.due_through x node p_conc (elim (updated_at net.taken y stored (parent lists x)) [
            | inl w ↦ omega (
              arith,
              at,
              ap (λ (q : PriceMessage). q.index) w.1,
              stored_within,
              ap (λ (z : ℕ). (net.taken z).index) w.0,
              agrees.index (parent lists x) (p_conc.0, p_conc.1),
            )
            | inr w ↦ omega (arith, at, ap (λ (q : PriceMessage). q.index) w.1)
          ]);
        })

    -- a restart is no move
    pub restarting : GoesOn lists p s (after_restart lists p net y k)
    restarting = still lists p (after_restart lists p net y k) s (with_bids lists p with_stored s stored_agrees net.counts
        (λ x. cond (eqb (parent lists x) y) (nothing_heard p) (net.heard x)) (update net.records y left)
        (update net.whole_from y (net.last_number y + 1)) net.bids_sent s.counts (record {
          sound = agrees.sound;
          counts = agrees.counts;
          heard = λ x node. either (IsItsBid lists p s x) (eqb (parent lists x) y) (nothing_heard p) (net.heard x)
              (λ e. (omega arith, nothing_is lists p by s x node)) (λ e. agrees.heard x node);
          newest_numbers = λ x node. elim (cases_eq (parent lists x) y) [
            | inl up ↦ ap (λ (z : ℕ). (update net.records y left z (net.last_number z) x).number) up
                ∙ ap (λ (f : ℕ → ℕ → BidMessage). (f (net.last_number y) x).number) (updated_same net.records y left) ∙ left_number x
                ∙ ap (λ (z : ℕ). recorded_number net z x) (sym up) ∙ agrees.newest_numbers x node
            | inr ne ↦ ap (λ (f : ℕ → ℕ → BidMessage). (f (net.last_number (parent lists x)) x).number)
                (updated_other net.records y left (parent lists x) ne) ∙ agrees.newest_numbers x node
          ];
          records = λ x n node whole le. elim (updated_at net.whole_from y (net.last_number y + 1) (parent lists x)) [
            | inl w ↦ absurd (omega (arith, whole, w.1, ap net.last_number w.0, agrees.last_number (parent lists x) (law.inner x node), le))
            | inr w ↦ ap (λ (f : ℕ → ℕ → BidMessage). f n x) (updated_other net.records y left (parent lists x) w.0)
                ∙ agrees.records x n node (omega (arith, whole, w.1)) le
          ];
          bids_sent = agrees.bids_sent;
          newest_sent = λ none. absurd (broken net y none);
          whole_from = λ none. absurd (broken net y none);
          caught_up = λ none. absurd (broken net y none);
          due_through = stored_agrees.due_through;
        }))

  module _ (c : ℕ) (may : can_rebuild lists net c ≡ true) where
    parts : (net.last_number c < net.whole_from c) × (has_news lists net c ≡ false)
    unfolding can_rebuild
    parts =
        let both = and_parts (ltb (net.last_number c) (net.whole_from c)) (not (has_news lists net c)) may in
        (ltb-true (net.last_number c) (net.whole_from c) both.0, not-true (has_news lists net c) both.1)

    -- what was heard of a child is what the lost record had
    record_is : (x n : ℕ) → IsNode lists x → parent lists x ≡ c → net.last_number c ≤ n → n ≤ length (s.published (parent lists x)) →
        (n ≡ net.last_number c) × (net.heard x ≡ bid_of_number lists p s x (number lists s x (cut_at (s.published (parent lists x)) n)))
    record_is x n node up from to =
        let is_sent : net.last_number c ≡ length (s.published (parent lists x)) =
        ap net.last_number (sym up) ∙ agrees.last_number (parent lists x) (law.inner x node) in
        let at : n ≡ length (s.published (parent lists x)) = omega (arith, from, to, is_sent) in (
          omega (arith, from, to, is_sent),
          (agrees.heard x node).1 ∙ ap (bid_of_number lists p s x) (no_news lists law p net s agrees c parts.1 x node up ∙ agrees.learnt x node
              ∙ ap (λ (k : ℕ). number lists s x (cut_at (s.published (parent lists x)) k)) (sym at)),
        )

    -- nor is a record that is rebuilt
    pub rebuilding : GoesOn lists p s (after_rebuilding net c)
    rebuilding = still lists p (after_rebuilding net c) s (with_bids lists p net s agrees net.counts net.heard
        (update net.records c (update (net.records c) (net.last_number c) net.heard)) (update net.whole_from c (net.last_number c)) net.bids_sent s.counts
        (record {
          sound = agrees.sound;
          counts = agrees.counts;
          heard = agrees.heard;
          newest_numbers = λ x node. elim (cases_eq (parent lists x) c) [
            | inl up ↦ ap (λ (f : ℕ → BidMessage). (f x).number)
                (two_same net.records c (net.last_number c) net.heard (parent lists x) (net.last_number (parent lists x)) up (ap net.last_number up))
                ∙ no_news lists law p net s agrees c parts.1 x node up
            | inr ne ↦ ap (λ (f : ℕ → BidMessage). (f x).number)
                (two_other net.records c (net.last_number c) net.heard (parent lists x) (net.last_number (parent lists x)) (λ up e. ne up))
                ∙ agrees.newest_numbers x node
          ];
          records = λ x n node whole le. elim (updated_at net.whole_from c (net.last_number c) (parent lists x)) [
            | inl w ↦
                let is = record_is x n node w.0 (omega (arith, whole, w.1)) le in
                ap (λ (f : ℕ → BidMessage). f x) (two_same net.records c (net.last_number c) net.heard (parent lists x) n w.0 is.0) ∙ is.1
            | inr w ↦ ap (λ (f : ℕ → BidMessage). f x) (two_other net.records c (net.last_number c) net.heard (parent lists x) n (λ up e. w.0 up))
                ∙ agrees.records x n node (omega (arith, whole, w.1)) le
          ];
          bids_sent = agrees.bids_sent;
          newest_sent = agrees.newest_sent;
          whole_from = λ none. absurd (omega (arith, parts.0, agrees.whole_from none c));
          caught_up = agrees.caught_up;
          due_through = agrees.due_through;
        }))

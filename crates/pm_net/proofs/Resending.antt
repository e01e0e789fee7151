-- A node stops before its next bid is sent, or sends its newest bid again.
use Rattle.std.proofs.Common.{◌≡◌, ◌∙◌, sym, ap, subst, ℕ, ◌+◌, ◌<◌, ◌≤◌, Bool, true, false, ltb, leb, ◌&&◌, ◌||◌}
use Rattle.std.proofs.Common.{inl, inr, List, [], ◌∷◌, ◌++◌, length, get_or, arith}
use Rattle.std.proofs.lemmas.Bool.{and_parts, leb-true, ne_eqb, true≢false}
use Rattle.std.proofs.lemmas.List.{get_or_append_left, length_push}
use Rattle.pm_bid.specs.Taken.{announced}
use Rattle.pm_market.specs.Lists.{Lists, phases, parent, is_leaf, changes, IsNode, IsLeaf, IsInner, IsConcentrator, Lawful}
use Rattle.pm_market.specs.State.{State, update, cut_at, newest_number_of, part, number}
use Rattle.pm_market.specs.Legality.{is_node}
use Rattle.pm_market.specs.Moves.{after_from}
use Rattle.pm_market.proofs.Cuts.{newest_leaf, newest_inner, part_leaf, part_inner}
use Rattle.pm_market.proofs.Legality.{is_node_from}
use Rattle.pm_laws.proofs.Facts.{updated_at}
use Rattle.pm_laws.proofs.Numbers.{published_is_part}
use Rattle.pm_net.specs.Pricing.{Pricing, GoesByNodes}
use Rattle.pm_net.specs.Messages.{BidMessage, bid_message, nothing_heard, numbers_of}
use Rattle.pm_laws.proofs.Numbers.{number_leaf}
use Rattle.pm_net.specs.Network.{Network}
use Rattle.pm_net.specs.Running.{device_bid, can_send, after_bidding, after_sending}
use Rattle.pm_net.specs.Restarts.{device_stopped, relay_stopped}
use Rattle.pm_net.specs.Running.{relay_bid}
use Rattle.pm_net.specs.Restarts.{with_restart, can_resend, newest_bid, after_resending}
use Rattle.pm_laws.specs.Gone.{is_gone}
use Rattle.pm_net.specs.Agrees.{IsItsBid, NetworkAgrees, GoesOn}
use Rattle.pm_net.proofs.Breaks.{broken, none_before}
use Rattle.pm_net.proofs.Agreeing.{still, with_prices, with_sent}
use Rattle.pm_net.proofs.Messages.{either, each_sent, some_sent}
use Rattle.pm_laws.proofs.Gone.{gone_leaf, gone_inner}
use Rattle.pm_net.proofs.Bidding.{bidding}
use Rattle.pm_net.proofs.Sending.{sending}

-- what stood in a channel stands there still once one more message is sent on some channel
still_there : (bids_sent : ℕ → List BidMessage) (x : ℕ) (m : BidMessage) (y k : ℕ) (d : BidMessage) → k < length (bids_sent y) →
    (k < length (update bids_sent x (bids_sent x ++ m ∷ []) y)) × (get_or (bids_sent y) k d ≡ get_or (update bids_sent x
    (bids_sent x ++ m ∷ []) y) k d)
still_there bids_sent x m y k d lt = elim (updated_at bids_sent x (bids_sent x ++ m ∷ []) y) [
  | inl w ↦
      let below : k < length (bids_sent x) = omega (arith, lt, ap (λ (z : ℕ). length (bids_sent z)) w.0) in (
        omega (arith, below, length_push (bids_sent x) m, ap (λ (l : List BidMessage). length l) w.1),
        ap (λ (z : ℕ). get_or (bids_sent z) k d) w.0 ∙ sym (get_or_append_left (bids_sent x) (m ∷ []) d k below)
            ∙ ap (λ (l : List BidMessage). get_or l k d) (sym w.1),
      )
  | inr w ↦ (omega (arith, lt, ap (λ (l : List BidMessage). length l) w.1), ap (λ (l : List BidMessage). get_or l k d) (sym w.1))
]

-- a network in which some of the bids were not sent, after a restart
silent : (lists : Lists) (p : Pricing) (net : Network) (s : State) → NetworkAgrees lists p net s → (z : ℕ) (old : ℕ → List BidMessage) →
    ((x k : ℕ) → IsNode lists x → k < length (old x) →
    (k < length (net.bids_sent x)) × (get_or (old x) k (nothing_heard p) ≡ get_or (net.bids_sent x) k (nothing_heard p))) →
    NetworkAgrees lists p (record net { bids_sent = old; restarts = with_restart net z }) s
silent lists p net s agrees z old fewer =
    let stopped : NetworkAgrees lists p (record net { restarts = with_restart net z }) s =
    with_prices lists p net s agrees net.answered net.taken net.prices_sent (with_restart net z) s.passed (λ none. absurd (broken net z none))
    (record {
      sound = agrees.sound;
      answered = agrees.answered;
      index = agrees.index;
      device_index = λ d leaf none. agrees.device_index d leaf (none_before net z d none);
      taken = agrees.taken;
      full = agrees.full;
      last_sent = agrees.last_sent;
      prices_sent = agrees.prices_sent;
      due_root = λ none. absurd (broken net z none);
      due_through = agrees.due_through;
    }) in
    with_sent lists p (record net { restarts = with_restart net z }) s stopped old
    (λ x k node lt. let at = fewer x k node lt in subst (IsItsBid lists p s x) (sym at.1) (agrees.bids_sent x k node at.0))
    (λ none. absurd (broken net z none))

module _ (lists : Lists) (law : Lawful lists) (p : Pricing) (by : GoesByNodes lists p) (net : Network) (s : State) (agrees : NetworkAgrees lists p net s) where
  -- a device that stops before its bid is sent: a Change
  pub device_stops : phases lists ≡ 1 → (d : ℕ) → (is_leaf lists d && ltb (net.counts d) (changes lists d)) ≡ true →
      GoesOn lists p s (device_stopped net d)
  device_stops one d may =
      let goes = bidding lists law one p by net s agrees d may in
      record {
        moves = goes.moves;
        legal = goes.legal;
        agrees = silent lists p (after_bidding lists p net d) (after_from lists s goes.moves) goes.agrees d net.bids_sent
            (λ x k node lt. still_there net.bids_sent d (device_bid lists p d (net.counts d + 1)) x k (nothing_heard p) lt);
      }

  -- a relay that stops before its bid is sent: Learns, and a Publish
  pub relay_stops : (c : ℕ) → can_send lists net c ≡ true → GoesOn lists p s (relay_stopped net c)
  relay_stops c may =
      let goes = sending lists law p by net s agrees c may in
      record {
        moves = goes.moves;
        legal = goes.legal;
        agrees = silent lists p (after_sending p net c) (after_from lists s goes.moves) goes.agrees c net.bids_sent
            (λ x k node lt. still_there net.bids_sent c (relay_bid p net c) x k (nothing_heard p) lt);
      }

  module _ (x : ℕ) (may : can_resend lists net x ≡ true) where
    parts : IsNode lists x × ((is_leaf lists x || (leb (net.whole_from x) (net.last_number x) && leb 1 (net.last_number x))) ≡ true)
    unfolding can_resend
    parts =
        let both = and_parts (is_node lists x) (is_leaf lists x || (leb (net.whole_from x) (net.last_number x) && leb 1 (net.last_number x))) may in
        (is_node_from lists x both.0, both.1)

    node : IsNode lists x
    node = parts.0

    its_device : IsLeaf lists x → IsItsBid lists p s x (device_bid lists p x (net.counts x))
    its_device leaf =
        let n : ℕ = net.counts x in (
          omega (arith, newest_leaf lists s.counts s.published x leaf, agrees.counts x leaf),
          ap (λ g. bid_message n g (p.demand x n)) (sym (gone_leaf lists x n leaf))
              ∙ ap (bid_message n (is_gone lists x n)) (
              sym (by.device x (part lists s x n) leaf ∙ ap (p.demand x) (part_leaf lists s.published x n x leaf))),
        )

    module _ (inner : IsInner lists x) where
      conc : IsConcentrator lists x
      conc = (node.0, node.1, inner)

      abbrev n : ℕ
      n = net.last_number x

      second : (a b : Bool) → a ≡ false → (a || b) ≡ true → b ≡ true
      second true b e h = absurd (true≢false e)
      second false b e h = h

      whole : (net.whole_from x ≤ n) × (1 ≤ n)
      whole =
          let both = and_parts (leb (net.whole_from x) n) (leb 1 n) (second (is_leaf lists x) (leb (net.whole_from x) n && leb 1 n) inner parts.1) in
          (leb-true (net.whole_from x) n both.0, leb-true 1 n both.1)

      demand_is : (z : ℕ) → IsNode lists z → parent lists z ≡ x → (net.records x n z).demand ≡ p.offer z (cut_at (s.published x) n)
      demand_is z z_node up =
          let c : ℕ = parent lists z in
          let le : n ≤ length (s.published c) = omega (arith, agrees.last_number x inner, ap (λ (i : ℕ). length (s.published i)) up) in
          let has : net.whole_from c ≤ n = omega (arith, whole.0, ap net.whole_from up) in
          ap (λ (i : ℕ). (net.records i n z).demand) (sym up) ∙ ap (λ (b : BidMessage). b.demand) (agrees.records z n z_node has le)
          ∙ sym (by.alike z (cut_at (s.published c) n) (part lists s z (number lists s z (cut_at (s.published c) n)))
          (published_is_part lists law s agrees.sound z n z_node le).0)
          ∙ ap (λ (i : ℕ). p.offer z (cut_at (s.published i) n)) up

      limits_are : p.limits x (numbers_of (net.records x n)) ≡ p.limits x (cut_at (s.published x) n)
      limits_are = by.limits_alike x (numbers_of (net.records x n)) (cut_at (s.published x) n) (λ z z_node leaf up.
          let c : ℕ = parent lists z in
          let le : n ≤ length (s.published c) = omega (arith, agrees.last_number x inner, ap (λ (i : ℕ). length (s.published i)) up) in
          let has : net.whole_from c ≤ n = omega (arith, whole.0, ap net.whole_from up) in
          ap (λ (i : ℕ). (net.records i n z).number) (sym up) ∙ ap (λ (b : BidMessage). b.number) (agrees.records z n z_node has le)
          ∙ number_leaf lists s.published z (cut_at (s.published c) n) leaf ∙ ap (λ (i : ℕ). cut_at (s.published i) n z) up)

      its_relay : IsItsBid lists p s x
          (bid_message n false (announced (p.limits x (numbers_of (net.records x n))) (p.add x (λ z. (net.records x n z).demand))))
      its_relay =
          let gone : is_gone lists x n ≡ false = gone_inner lists x n inner ∙ ne_eqb n 0 (λ e. omega (arith, e, whole.1)) in
          let demand : announced (p.limits x (numbers_of (net.records x n))) (p.add x (λ z. (net.records x n z).demand)) ≡ p.offer x (part lists s x n) =
          ap (λ v. announced v (p.add x (λ z. (net.records x n z).demand))) limits_are
          ∙ ap (announced (p.limits x (cut_at (s.published x) n)))
          (by.sums x (λ z. (net.records x n z).demand) (λ z. p.offer z (cut_at (s.published x) n)) demand_is)
          ∙ sym (by.relay x (cut_at (s.published x) n) conc) ∙ ap (p.offer x) (sym (part_inner lists s.published x n inner)) in (
            omega (arith, newest_inner lists s.counts s.published x inner, agrees.last_number x inner),
            ap (λ g. bid_message n g (announced (p.limits x (numbers_of (net.records x n))) (p.add x (λ z. (net.records x n z).demand)))) (sym gone)
                ∙ ap (bid_message n (is_gone lists x n)) demand,
          )

    abbrev bid : BidMessage
    bid = newest_bid lists p net x

    its : IsItsBid lists p s x bid
    its = either (IsItsBid lists p s x) (is_leaf lists x) (device_bid lists p x (net.counts x))
        (bid_message (net.last_number x) false
        (announced (p.limits x (numbers_of (net.records x (net.last_number x)))) (p.add x (λ z. (net.records x (net.last_number x) z).demand))))
        its_device its_relay

    -- a bid that is sent again: no move
    pub resending : GoesOn lists p s (after_resending lists p net x)
    resending = still lists p (after_resending lists p net x) s (with_sent lists p net s agrees (update net.bids_sent x (net.bids_sent x ++ bid ∷ []))
        (λ y k y_node. each_sent (IsItsBid lists p s) net.bids_sent x bid (nothing_heard p) its y (λ i. agrees.bids_sent y i y_node) k)
        (λ none y y_node some. some_sent (λ (b : BidMessage). b.number ≡ newest_number_of lists s y) net.bids_sent x bid (nothing_heard p) y
        (agrees.newest_sent none y y_node some)))

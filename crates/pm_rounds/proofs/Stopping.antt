-- Nodes that stop between storing and sending: what they send again settles a network as well, if no relay is stuck.
use Rattle.std.proofs.Common.{◌≡◌, ◌∙◌, sym, ap, subst, ℕ, zero, suc, ◌+◌, ◌-◌, ◌<◌, ◌≤◌, true, false, ◌⊎◌, inl}
use Rattle.std.proofs.Common.{inr, List, [], ◌∷◌, ◌++◌, length, get_or, refl, arith}
use Rattle.std.proofs.lemmas.Bool.{cases_eq, cases_lt, cases_Bool, and_parts, and_from, cond-true, cond-false, lt-ltb, ltb-true, le-leb, leb-true, eq-eqb}
use Rattle.std.proofs.lemmas.Bool.{not-true, not_from_false, both_ways}
use Rattle.std.specs.List.{All, Contains}
use Rattle.pm_base.specs.Limits.{window_size}
use Rattle.pm_bid.specs.Clearing.{clearing_step}
use Rattle.pm_market.specs.Lists.{Lists, nodes, phases, parent, is_leaf, IsNode, IsLeaf, IsInner, IsConcentrator, Lawful}
use Rattle.pm_market.specs.State.{State, update, sum_to, newest_number_of, clearings}
use Rattle.pm_market.specs.Moves.{after_from}
use Rattle.pm_market.proofs.Tree.{leaf_zero}
use Rattle.pm_market.proofs.Legality.{is_node_at}
use Rattle.pm_laws.specs.Gone.{is_gone}
use Rattle.pm_laws.proofs.Published.{due_within}
use Rattle.pm_laws.proofs.Sums.{sum_le, sum_same}
use Rattle.pm_net.specs.Pricing.{Pricing, GoesByNodes}
use Rattle.pm_net.specs.Messages.{BidMessage, PriceMessage, price_message, nothing_heard, no_price}
use Rattle.pm_net.specs.Network.{Network, sent_bid, sent_price, WasSent}
use Rattle.pm_net.specs.Running.{recorded_number, relay_bid, is_new_bid, is_caught_up, has_news, can_send, can_clear, is_new_price, names_a_bid, waits}
use Rattle.pm_net.specs.Running.{after_taking_bid, after_sending, after_clearing, after_taking_price, after_answer, after_passing, after_relay_price}
use Rattle.pm_net.specs.Restarts.{can_rebuild, can_resend, after_resending, newest_bid, can_tell_one, after_telling_one}
use Rattle.pm_net.specs.Events.{Event, network_step, network_after, TakesBid, Sends, Clears, TakesPrice, Rebuilds}
use Rattle.pm_net.specs.Events.{Resends, TellsOne}
use Rattle.pm_net.specs.Agrees.{NetworkAgrees, GoesOn}
use Rattle.pm_net.specs.Settled.{made_number, IsSettledNetwork}
use Rattle.pm_rounds.specs.Rounds.{IsCarried, IsRound, IsFullRound, AreFullRounds, after_rounds}
use Rattle.pm_rounds.specs.Sent.{CanGoOn}
use Rattle.pm_rounds.specs.Bounds.{full_round_bound}
use Rattle.pm_net.proofs.Messages.{new_sent}
use Rattle.pm_net.proofs.News.{no_news, newest_record, caught_at}
use Rattle.pm_net.proofs.Resting.{own_is, caught}
use Rattle.pm_net.proofs.Settled.{none_at_root}
use Rattle.pm_net.proofs.Runs.{event_goes_on}
use Rattle.pm_rounds.proofs.Counting.{step_rises, count_of, OnlySends}
use Rattle.pm_rounds.proofs.Tried.{after_rises, only_sends, Tried, tried, bid_old, price_old, cannot_send, cannot_clear, cannot_rebuild}
use Rattle.pm_rounds.proofs.Quiet.{IsQuiet, heard_gone, quiet_step}
use Rattle.pm_rounds.proofs.Newest.{top_at, top_there, top_bid, top_price, bid_key, price_key, tops, full_count, full_small, full_rises}
use Rattle.pm_rounds.proofs.GoingOn.{can_go_on}
use Rattle.pm_rounds.proofs.Rounds.{rounds_counts, held_so}
use Rattle.pm_rounds.proofs.RoundsExist.{are_rounds}
use Rattle.pm_market.specs.Lists.{is_member}

-- ---- what is sent again in a round in which nothing rises

tops_rise : (lists : Lists) (p : Pricing) (events : List Event) (net : Network) → All (IsCarried lists) events →
    (full_count lists net ≤ full_count lists (network_after lists p net events))
    × ((x : ℕ) → top_bid net x ≤ top_bid (network_after lists p net events) x)
    × ((x : ℕ) → top_price net x ≤ top_price (network_after lists p net events) x)
tops_rise lists p [] net all = (omega arith, λ x. omega arith, λ x. omega arith)
tops_rise lists p (e ∷ es) net all =
    let first = full_rises lists p net e (all 0 e (omega arith)) in
    let rest = tops_rise lists p es (network_step lists p net e) (λ k o lt. all (suc k) o (omega (arith, lt))) in
    (omega (arith, first.0, rest.0), λ x. omega (arith, first.1 x, rest.1 x), λ x. omega (arith, first.2 x, rest.2 x))

-- where nothing rises, neither what is counted nor the newest message on a channel does
unfolding_full : (lists : Lists) (net after : Network) → count_of lists net ≤ count_of lists after → ((x : ℕ) → top_bid net x ≤ top_bid after x) →
    ((x : ℕ) → top_price net x ≤ top_price after x) → full_count lists after ≤ full_count lists net →
    (count_of lists after ≤ count_of lists net) × ((x : ℕ) → IsNode lists x → (top_bid after x ≤ top_bid net x) ×
    (top_price after x ≤ top_price net x))
unfolding full_count tops
unfolding_full lists net after counts bids prices le =
    let each : (x : ℕ) → 1 ≤ x → x ≤ nodes lists → tops net x ≤ tops after x = λ x one le. omega (arith, bids x, prices x) in (
      omega (arith, le, sum_le (nodes lists) (tops net) (tops after) each),
      λ x node. elim (cases_lt (tops net x) (tops after x)) [
        | inl lt ↦ absurd (omega (
          arith,
          le,
          counts,
          Rattle.pm_laws.proofs.Sums.sum_lt (nodes lists) (tops net) (tops after) each x node.0 node.1 lt,
        ))
        | inr ge ↦ (omega (arith, ge, prices x), omega (arith, ge, bids x))
      ],
    )

-- the auctioneer has news at some time among these events
pub record HadNews (lists : Lists) (p : Pricing) (net : Network) (events : List Event) : Type 0 where
  -- the events up to then, and the rest
  pub before : List Event
  pub later : List Event
  -- they are all events
  pub are : events ≡ before ++ later
  pub news : has_news lists (network_after lists p net before) 0 ≡ true

module _ (lists : Lists) (law : Lawful lists) (one : phases lists ≡ 1) (p : Pricing) (by : GoesByNodes lists p) where
  resent_now : (net : Network) (x : ℕ) → can_resend lists net x ≡ true → made_number lists net x ≤ top_bid (network_step lists p net (Resends x)) x
  unfolding top_bid bid_key
  resent_now net x can =
      let after : Network = after_resending lists p net x in
      let is : network_step lists p net (Resends x) ≡ after = cond-true (can_resend lists net x) after net can in
      let number : (newest_bid lists p net x).number ≡ made_number lists net x = elim (cases_Bool (is_leaf lists x)) [
        | inl e ↦ ap (λ (b : BidMessage). b.number) (cond-true (is_leaf lists x) (Rattle.pm_net.specs.Running.device_bid lists p x (net.counts x)) _ e)
            ∙ sym (cond-true (is_leaf lists x) (net.counts x) (net.last_number x) e)
        | inr e ↦ ap (λ (b : BidMessage). b.number) (cond-false (is_leaf lists x) (Rattle.pm_net.specs.Running.device_bid lists p x (net.counts x)) _ e)
            ∙ sym (cond-false (is_leaf lists x) (net.counts x) (net.last_number x) e)
      ] in
      let at = new_sent (λ (b : BidMessage). b.number ≡ made_number lists net x) net.bids_sent x (newest_bid lists p net x)
      (nothing_heard p) x refl number in
      omega (arith, at.2, top_at bid_key (after.bids_sent x) (nothing_heard p) at.0 at.1, ap (λ (n : Network). top_bid n x) is)

  told_now : (net : Network) (z : ℕ) → can_tell_one lists net z ≡ true → net.last_number 0 ≤ top_price (network_step lists p net (TellsOne z)) z
  unfolding top_price price_key
  told_now net z can =
      let after : Network = after_telling_one p net z in
      let is : network_step lists p net (TellsOne z) ≡ after = cond-true (can_tell_one lists net z) after net can in
      let price : PriceMessage = price_message (net.records 0 (net.last_number 0) z).number (net.last_number 0)
      (clearing_step (p.add 0 (λ x. (net.records 0 (net.last_number 0) x).demand))) in
      let at = new_sent (λ (q : PriceMessage). q.index ≡ net.last_number 0) net.prices_sent z price no_price z refl refl in
      omega (arith, at.2, top_at price_key (after.prices_sent z) no_price at.0 at.1, ap (λ (n : Network). top_price n z) is)

  -- a node that may send again has sent its newest bid by the end of the round
  resent : (events : List Event) (net : Network) → All (IsCarried lists) events →
      count_of lists (network_after lists p net events) ≤ count_of lists net →
      (x i : ℕ) → i < length events → get_or events i (Resends x) ≡ Resends x → can_resend lists net x ≡ true →
      made_number lists net x ≤ top_bid (network_after lists p net events) x
  unfolding can_resend
  resent [] net all le x i lt is can = absurd (omega (arith, lt))
  resent (e ∷ es) net all le x zero lt is can =
      let next : Network = network_step lists p net e in
      let given : made_number lists net x ≤ top_bid next x =
      subst (λ (f : Event). made_number lists net x ≤ top_bid (network_step lists p net f) x) (sym is) (resent_now net x can) in
      omega (arith, given, (tops_rise lists p es next (λ k o lt. all (suc k) o (omega (arith, lt)))).1 x)
  resent (e ∷ es) net all le x (suc i) lt is can =
      let carried : IsCarried lists e = all 0 e (omega arith) in
      let next : Network = network_step lists p net e in
      let rest : All (IsCarried lists) es = λ k o lt. all (suc k) o (omega (arith, lt)) in
      let sends : OnlySends p net next = only_sends lists law one p by net e carried (omega (arith, le, after_rises lists p es next rest)) in
      omega (
        arith,
        ap (λ (n : Network). made_number lists n x) sends.is,
        resent es next rest (omega (arith, le, step_rises lists p net e carried)) x i (omega (arith, lt)) is
            (ap (λ (n : Network). can_resend lists n x) sends.is ∙ can),
      )

  told : (events : List Event) (net : Network) → All (IsCarried lists) events → count_of lists (network_after lists p net events) ≤ count_of lists net →
      (z i : ℕ) → i < length events → get_or events i (TellsOne z) ≡ TellsOne z → can_tell_one lists net z ≡ true →
      net.last_number 0 ≤ top_price (network_after lists p net events) z
  unfolding can_tell_one
  told [] net all le z i lt is can = absurd (omega (arith, lt))
  told (e ∷ es) net all le z zero lt is can =
      let next : Network = network_step lists p net e in
      let given : net.last_number 0 ≤ top_price next z =
      subst (λ (f : Event). net.last_number 0 ≤ top_price (network_step lists p net f) z) (sym is) (told_now net z can) in
      omega (arith, given, (tops_rise lists p es next (λ k o lt. all (suc k) o (omega (arith, lt)))).2 z)
  told (e ∷ es) net all le z (suc i) lt is can =
      let carried : IsCarried lists e = all 0 e (omega arith) in
      let next : Network = network_step lists p net e in
      let rest : All (IsCarried lists) es = λ k o lt. all (suc k) o (omega (arith, lt)) in
      let sends : OnlySends p net next = only_sends lists law one p by net e carried (omega (arith, le, after_rises lists p es next rest)) in
      omega (
        arith,
        ap (λ (n : Network). n.last_number 0) sends.is,
        told es next rest (omega (arith, le, step_rises lists p net e carried)) z i (omega (arith, lt)) is
            (ap (λ (n : Network). can_tell_one lists n z) sends.is ∙ can),
      )

  -- if nothing rises, then it had them at the beginning
  news_before : (before later : List Event) (net : Network) → All (IsCarried lists) (before ++ later) →
      count_of lists (network_after lists p net (before ++ later)) ≤ count_of lists net → has_news lists (network_after lists p net before) 0 ≡ true →
      has_news lists net 0 ≡ true
  unfolding has_news
  news_before [] later net all le news = news
  news_before (e ∷ es) later net all le news =
      let carried : IsCarried lists e = all 0 e (omega arith) in
      let next : Network = network_step lists p net e in
      let rest : All (IsCarried lists) (es ++ later) = λ k o lt. all (suc k) o (omega (arith, lt)) in
      let sends : OnlySends p net next =
      only_sends lists law one p by net e carried (omega (arith, le, after_rises lists p (es ++ later) next rest)) in
      sym (ap (λ (n : Network). has_news lists n 0) sends.is)
      ∙ news_before es later next rest (omega (arith, le, step_rises lists p net e carried)) news

  -- ---- a round in which nothing rises

  module _ (events : List Event) (net : Network) (s : State) (agrees : NetworkAgrees lists p net s) (round : IsRound lists p net events)
      (le : full_count lists (network_after lists p net events) ≤ full_count lists net) where
    -- neither what is counted nor the newest message of a channel rises
    pub none_rises : (count_of lists (network_after lists p net events) ≤ count_of lists net)
        × ((x : ℕ) → IsNode lists x → (top_bid (network_after lists p net events) x ≤ top_bid net x) ×
        (top_price (network_after lists p net events) x ≤ top_price net x))
    none_rises =
        let up = tops_rise lists p events net round.carried in
        unfolding_full lists net (network_after lists p net events) (after_rises lists p events net round.carried) up.1 up.2 le

    tries : (e : Event) → Contains events e → Tried lists p net e
    tries e c = tried lists law one p by events net s agrees round.carried none_rises.0 e c.0 c.1 c.2

    -- a bid in the channel is held, or a newer one
    pub held : (x k : ℕ) → IsNode lists x → k < length (net.bids_sent x) → (sent_bid p net x k).number ≤ (net.heard x).number
    held x k node lt =
        let given = round.bids x k node lt in
        omega (arith, given.newer, bid_old lists law one p by net x given.place node given.inside (tries (TakesBid x given.place) given.given))

    -- no node can have its record again
    pub no_rebuild : (y : ℕ) → IsInner lists y → y ≤ nodes lists → can_rebuild lists net y ≡ false
    no_rebuild y inner within = cannot_rebuild lists law one p by net y (tries (Rebuilds y) (round.looks y inner within))

    -- a node without news has its record
    pub has_its : (y : ℕ) → IsInner lists y → y ≤ nodes lists → has_news lists net y ≡ false → net.whole_from y ≤ net.last_number y
    unfolding can_rebuild
    has_its y inner within none = elim (cases_lt (net.last_number y) (net.whole_from y)) [
      | inr ge ↦ ge
      | inl lost ↦ absurd (both_ways (can_rebuild lists net y) (no_rebuild y inner within) (and_from _ _
          (lt-ltb (net.last_number y) (net.whole_from y) lost) (not_from_false (has_news lists net y) none)))
    ]

    -- if the newest bid of each node is held, and each child of the auctioneer was told again or it had news, then the network is settled
    module _ (bids : (x : ℕ) → IsNode lists x → made_number lists net x ≤ (net.heard x).number)
        (tells : (z : ℕ) → IsNode lists z → parent lists z ≡ 0 → Contains events (TellsOne z) ⊎ HadNews lists p net events) where
      auctioneer : can_clear lists net ≡ false
      auctioneer = cannot_clear lists law one p by net (tries Clears round.clears)

      root_none : has_news lists net 0 ≡ false
      root_none = none_at_root lists net auctioneer (caught lists law p net s agrees bids 0)

      root_told : (x : ℕ) → IsNode lists x → parent lists x ≡ 0 → (net.heard x).gone ≡ false → WasSent net x (net.last_number 0)
      unfolding can_tell_one top_price price_key
      root_told x node up stays =
          let j : ℕ = net.last_number 0 in
          let whole : net.whole_from 0 ≤ j = has_its 0 (leaf_zero lists) (omega arith) root_none in
          let there = ap (λ (y : ℕ). net.records y j x) (sym up)
          ∙ agrees.records x j node (omega (arith, whole, ap net.whole_from up))
          (omega (arith, agrees.last_number 0 (leaf_zero lists), ap (λ (y : ℕ). length (s.published y)) up)) in
          let same : (net.heard x).number ≡ recorded_number net 0 x =
          no_news lists law p net s agrees 0 root_none x node up ∙ sym (newest_record lists law p net s agrees 0 x node up) in
          let gone : (net.records 0 j x).gone ≡ false =
          ap (λ (b : BidMessage). b.gone) there ∙ sym (ap (λ (b : BidMessage). is_gone lists x b.number) there) ∙ sym (ap (is_gone lists x) same)
          ∙ sym (heard_gone lists law one p by net s agrees x node) ∙ stays in
          let some : 1 ≤ j = elim (cases_eq j 0) [
            | inr ne ↦ omega (arith, ne)
            | inl zero_is ↦ absurd (both_ways (net.records 0 j x).gone gone (ap (λ (b : BidMessage). b.gone) there
                ∙ ap (λ (i : ℕ). is_gone lists x (Rattle.pm_market.specs.State.number lists s x
                (Rattle.pm_market.specs.State.cut_at (s.published (parent lists x)) i))) zero_is
                ∙ ap (λ (y : ℕ). is_gone lists x (Rattle.pm_market.specs.State.number lists s x
                (Rattle.pm_market.specs.State.cut_at (s.published y) 0))) up
                ∙ ap (is_gone lists x) (Rattle.pm_net.proofs.Answered.number_none lists law s agrees.sound x node)
                ∙ Rattle.pm_laws.proofs.Gone.gone_zero lists x))
          ] in
          let may : can_tell_one lists net x ≡ true =
          and_from _ _ (and_from _ _ (and_from _ _ (and_from _ _ (is_node_at lists x node) (eq-eqb (parent lists x) 0 up)) (le-leb (net.whole_from 0) j whole))
          (le-leb 1 j some)) (not_from_false (net.records 0 j x).gone gone) in
          let newest : j ≤ top_price net x = elim (tells x node up) [
            | inl asked ↦ omega (arith, told events net round.carried none_rises.0 x asked.0 asked.1 asked.2 may, (none_rises.1 x node).1)
            | inr had ↦ absurd (both_ways (has_news lists net 0) root_none (news_before had.before had.later net
                (subst (All (IsCarried lists)) had.are round.carried)
                (subst (λ (l : List Event). count_of lists (network_after lists p net l) ≤ count_of lists net) had.are none_rises.0) had.news))
          ] in
          let at = top_there price_key (net.prices_sent x) no_price (omega (arith, some, newest)) in (
            at.0,
            at.1,
            omega (
              arith,
              at.2,
              newest,
              agrees.last_number 0 (leaf_zero lists),
              (due_within lists s agrees.sound x (sent_price net x at.0).index (agrees.prices_sent x at.0 node at.1).0).1,
            ),
          )

      -- the network is settled, and no record can be had again
      pub quiet_where_held : IsQuiet lists net
      quiet_where_held = record {
        settled = record {
          bids = bids;
          prices = λ x k node lt.
              let given = round.prices x k node lt in
              omega (
                arith,
                given.newer,
                price_old lists law one p by net x given.place node (caught lists law p net s agrees bids x)
                    (λ inner. no_rebuild x inner node.1) given.inside (tries (TakesPrice x given.place) given.given),
              );
          told = root_told;
          relays = λ c conc. cannot_send lists law one p by net c (tries (Sends c) (round.sends c conc));
          auctioneer = auctioneer;
        };
        rebuilt = no_rebuild;
      }

  -- ---- a full round in which nothing rises

  module _ (events : List Event) (net : Network) (s : State) (agrees : NetworkAgrees lists p net s) (can : CanGoOn lists p net)
      (full : IsFullRound lists p net events) (le : full_count lists (network_after lists p net events) ≤ full_count lists net) where
    by_resending : (x : ℕ) → IsNode lists x → can_resend lists net x ≡ true → made_number lists net x ≤ (net.heard x).number
    unfolding top_bid bid_key
    by_resending x node may =
        let asked = full.resends x node in
        let there : made_number lists net x ≤ top_bid net x =
        omega (
          arith,
          resent events net full.round.carried (none_rises events net s agrees full.round le).0 x asked.0 asked.1 asked.2 may,
          ((none_rises events net s agrees full.round le).1 x node).0,
        ) in
        elim (cases_eq (made_number lists net x) 0) [
          | inl none ↦ omega (arith, none)
          | inr ne ↦
              let at = top_there bid_key (net.bids_sent x) (nothing_heard p) (omega (arith, ne, there)) in
              omega (arith, there, at.2, held events net s agrees full.round le x at.0 node at.1)
        ]

    -- a relay that has its record, or a device, may send again
    with_record : (c : ℕ) → IsConcentrator lists c → net.whole_from c ≤ net.last_number c → net.last_number c ≤ (net.heard c).number
    unfolding can_resend
    with_record c conc whole =
        let node : IsNode lists c = (conc.0, conc.1) in
        elim (cases_eq (net.last_number c) 0) [
          | inl none ↦ omega (arith, none)
          | inr ne ↦ omega (
            arith,
            cond-false (is_leaf lists c) (net.counts c) (net.last_number c) conc.2,
            by_resending c node (and_from _ _ (is_node_at lists c node) (Rattle.std.proofs.lemmas.Bool.or_right (is_leaf lists c) _
                (and_from _ _ (le-leb (net.whole_from c) (net.last_number c) whole) (le-leb 1 (net.last_number c) (omega (arith, ne)))))),
          )
        ]

    leaf_held : (x : ℕ) → IsNode lists x → IsLeaf lists x → made_number lists net x ≤ (net.heard x).number
    unfolding can_resend
    leaf_held x node leaf = by_resending x node (and_from _ _ (is_node_at lists x node) (Rattle.std.proofs.lemmas.Bool.or_left (is_leaf lists x) _ leaf))

    -- the newest bid of each node is held, from the devices up
    all_heard : (fuel x : ℕ) → nodes lists < x + fuel → IsNode lists x → made_number lists net x ≤ (net.heard x).number
    unfolding can_send
    all_heard zero x enough node = absurd (omega (arith, enough, node.1))
    all_heard (suc fuel) x enough node = elim (cases_Bool (is_leaf lists x)) [
      | inl leaf ↦ leaf_held x node leaf
      | inr inner ↦
          let conc : IsConcentrator lists x = (node.0, node.1, inner) in
          let made : made_number lists net x ≡ net.last_number x = cond-false (is_leaf lists x) (net.counts x) (net.last_number x) inner in
          elim (can x conc) [
            | inl sent ↦ omega (arith, made, sent.2, held events net s agrees full.round le x sent.0 node sent.1)
            | inr rest ↦ elim rest [
              | inl whole ↦ omega (arith, made, with_record x conc whole)
              | inr room ↦
                  let up : is_caught_up lists net x ≡ true = caught_at lists law p net s agrees x (λ z z_node z_up. omega (
                    arith,
                    agrees.sound.learnt_within z z_node,
                    own_is lists p net s agrees z,
                    all_heard fuel z (omega (arith, enough, law.earlier z z_node, z_up)) z_node,
                  )) in
                  let none : has_news lists net x ≡ false = elim (cases_Bool (has_news lists net x)) [
                    | inr e ↦ e
                    | inl news ↦ absurd (both_ways (can_send lists net x)
                        (cannot_send lists law one p by net x (tries events net s agrees full.round le (Sends x) (full.round.sends x conc)))
                        (and_from _ _ (and_from _ _ (and_from _ _ (and_from _ _ (is_node_at lists x node) (not_from_false (is_leaf lists x) inner)) up) news)
                        (lt-ltb (net.last_number x - net.answered x) window_size room)))
                  ] in
                  omega (arith, made, with_record x conc (has_its events net s agrees full.round le x inner node.1 none))
            ]
          ]
    ]

    bids : (x : ℕ) → IsNode lists x → made_number lists net x ≤ (net.heard x).number
    bids x node = all_heard (nodes lists + 1) x (omega (arith, node.0)) node

    -- a full round in which nothing rises leaves a settled network
    pub quiet_full : IsQuiet lists net
    quiet_full = quiet_where_held events net s agrees full.round le bids (λ z node up. inl (full.tells z node up))

  -- ---- full rounds

  after_full : (events : List Event) (net : Network) (s : State) → NetworkAgrees lists p net s → CanGoOn lists p net → All (IsCarried lists) events →
      (t : State) × NetworkAgrees lists p (network_after lists p net events) t × CanGoOn lists p (network_after lists p net events)
      × (IsQuiet lists net → IsQuiet lists (network_after lists p net events))
  after_full [] net s agrees can all = (s, agrees, can, λ quiet. quiet)
  after_full (e ∷ es) net s agrees can all =
      let carried : IsCarried lists e = all 0 e (omega arith) in
      let goes : GoesOn lists p s (network_step lists p net e) = event_goes_on lists law one p by net s agrees e in
      let rest = after_full es (network_step lists p net e) (after_from lists s goes.moves) goes.agrees (can_go_on lists p net e carried can)
      (λ k o lt. all (suc k) o (omega (arith, lt))) in
      (rest.0, rest.1, rest.2, λ quiet. rest.3 (quiet_step lists law one p by net s agrees quiet e carried))

  full_on : (rounds : List (List Event)) (net : Network) (s : State) → NetworkAgrees lists p net s → CanGoOn lists p net →
      AreFullRounds lists p net rounds → (t : State) × NetworkAgrees lists p (after_rounds lists p net rounds) t
      × (IsQuiet lists net → IsQuiet lists (after_rounds lists p net rounds))
      × (IsQuiet lists (after_rounds lists p net rounds) ⊎ (full_count lists net + length rounds ≤ full_count lists (after_rounds lists p net rounds)))
  full_on [] net s agrees can are = (s, agrees, λ quiet. quiet, inr (omega arith))
  full_on (round ∷ rounds) net s agrees can are =
      let next : Network = network_after lists p net round in
      let after = after_full round net s agrees can are.0.round.carried in
      let rest = full_on rounds next after.0 after.1 after.2 are.1 in
      let stays : IsQuiet lists net → IsQuiet lists (after_rounds lists p next rounds) = λ quiet. rest.2 (after.3 quiet) in (
        rest.0,
        rest.1,
        stays,
        elim (cases_lt (full_count lists net) (full_count lists next)) [
          | inl more ↦ elim rest.3 [
            | inl quiet ↦ inl quiet
            | inr up ↦ inr (omega (arith, up, more))
          ]
          | inr none ↦ inl (stays (quiet_full round net s agrees can are.0 none))
        ],
      )

  -- so many full rounds settle a network in which each relay can go on
  pub full_settles : (net : Network) (s : State) (rounds : List (List Event)) → NetworkAgrees lists p net s → CanGoOn lists p net →
      AreFullRounds lists p net rounds → full_round_bound lists < length rounds → IsSettledNetwork lists (after_rounds lists p net rounds)
  full_settles net s rounds agrees can are many =
      let on = full_on rounds net s agrees can are in
      elim on.3 [
        | inl quiet ↦ quiet.settled
        | inr up ↦ absurd (omega (arith, up, many, full_small lists law p (after_rounds lists p net rounds) on.0 on.1))
      ]

  -- and its members hold the price over all bids
  pub full_held : (net : Network) (s : State) (rounds : List (List Event)) → NetworkAgrees lists p net s → CanGoOn lists p net →
      AreFullRounds lists p net rounds → full_round_bound lists < length rounds → (d : ℕ) → IsLeaf lists d →
      is_member lists d (net.counts d) ≡ true →
      (after_rounds lists p net rounds).taken d
      ≡ price_message (net.counts d) ((after_rounds lists p net rounds).last_number 0) (p.local net.counts d)
  full_held net s rounds agrees can are many d leaf member =
      let on = full_on rounds net s agrees can are in
      held_so lists law one p by net (after_rounds lists p net rounds) on.0 on.1 (full_settles net s rounds agrees can are many)
      (rounds_counts lists p rounds net (are_rounds lists p rounds net are)) d leaf member

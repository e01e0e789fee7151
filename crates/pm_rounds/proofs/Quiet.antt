-- A settled network in which no record can be had again: it stays so in a round.
use Rattle.std.proofs.Common.{◌≡◌, ◌∙◌, sym, ap, ℕ, ◌<◌, ◌≤◌, Bool, true, false, cond, not, eqb, ltb, leb, ◌&&◌, inl}
use Rattle.std.proofs.Common.{inr, List, length, get_or, arith}
use Rattle.std.proofs.lemmas.Bool.{cases_lt, and_parts, ltb-true, leb-true, not-true}
use Rattle.std.proofs.lemmas.Bool.{both_ways, eqb-true}
use Rattle.pm_bid.specs.Clearing.{clearing_step}
use Rattle.pm_market.specs.Lists.{Lists, nodes, phases, parent, is_leaf, IsNode, IsInner, Lawful}
use Rattle.pm_market.specs.State.{State, cut_at, number}
use Rattle.pm_market.specs.Legality.{is_node}
use Rattle.pm_market.proofs.Tree.{leaf_zero}
use Rattle.pm_market.proofs.Legality.{is_node_from}
use Rattle.pm_laws.specs.Gone.{is_gone}
use Rattle.pm_net.specs.Pricing.{Pricing, GoesByNodes}
use Rattle.pm_net.specs.Messages.{BidMessage, PriceMessage, price_message, nothing_heard, no_price}
use Rattle.pm_net.specs.Network.{Network, sent_bid, sent_price}
use Rattle.pm_net.specs.Running.{recorded_number, is_new_bid, is_caught_up, has_news, can_send, can_clear, is_new_price}
use Rattle.pm_net.specs.Running.{after_taking_bid, after_sending, after_clearing, after_taking_price, after_relay_price}
use Rattle.pm_net.specs.Restarts.{can_rebuild, after_rebuilding, can_resend, after_resending, can_tell_one, after_telling_one}
use Rattle.pm_net.specs.Events.{Event, network_step, Bids, TakesBid, Sends, Clears, TakesPrice, Restarts, Rebuilds, StopsBidding}
use Rattle.pm_net.specs.Events.{Resends, PassesToOne, StopsClearing, TellsOne}
use Rattle.pm_net.specs.Agrees.{bid_of_number, NetworkAgrees}
use Rattle.pm_net.specs.Settled.{IsSettledNetwork}
use Rattle.pm_rounds.specs.Rounds.{IsCarried}
use Rattle.pm_net.proofs.Messages.{either, each_sent, past}
use Rattle.pm_net.proofs.News.{no_news, newest_record}
use Rattle.pm_net.proofs.Resting.{own_is, caught}
use Rattle.pm_net.proofs.Settled.{none_at_root}
use Rattle.pm_rounds.proofs.Counting.{KeepsSent, keeps_all, keeps_pushed}

-- settled, and no record can be had again
pub record IsQuiet (lists : Lists) (net : Network) : Type 0 where
  -- it is settled
  pub settled : IsSettledNetwork lists net
  pub rebuilt : (y : ℕ) → IsInner lists y → y ≤ nodes lists → can_rebuild lists net y ≡ false

module _ (lists : Lists) (law : Lawful lists) (one : phases lists ≡ 1) (p : Pricing) (by : GoesByNodes lists p) where
  -- a bid that a parent holds is gone by its number
  pub heard_gone : (net : Network) (s : State) → NetworkAgrees lists p net s → (x : ℕ) → IsNode lists x →
      (net.heard x).gone ≡ is_gone lists x (net.heard x).number
  heard_gone net s agrees x node = ap (λ (b : BidMessage). b.gone) (agrees.heard x node).1

  -- ---- it stays so

  quiet_with : (net : Network) → IsQuiet lists net → (bids : ℕ → List BidMessage) (prices : ℕ → List PriceMessage) →
      KeepsSent no_price net.prices_sent prices →
      ((x k : ℕ) → IsNode lists x → k < length (prices x) → (get_or (prices x) k no_price).index ≤ (net.taken x).index) →
      IsQuiet lists (record net { bids_sent = bids; prices_sent = prices })
  unfolding can_send can_clear can_rebuild is_caught_up has_news
  quiet_with net quiet bids prices kept all = record {
    settled = record {
      bids = quiet.settled.bids;
      prices = all;
      told = λ x node up stays.
          let at = quiet.settled.told x node up stays in
          let there = kept x at.0 at.1 in
          (at.0, there.0, ap (λ (q : PriceMessage). q.index) there.1 ∙ at.2);
      relays = quiet.settled.relays;
      auctioneer = quiet.settled.auctioneer;
    };
    rebuilt = quiet.rebuilt;
  }

  -- a child that is told the newest clearing again was not gone, and so it holds that one
  told_again : (net : Network) (s : State) → NetworkAgrees lists p net s → IsQuiet lists net → (z : ℕ) → can_tell_one lists net z ≡ true →
      net.last_number 0 ≤ (net.taken z).index
  unfolding can_tell_one
  told_again net s agrees quiet z may =
      let a = and_parts (is_node lists z && eqb (parent lists z) 0 && leb (net.whole_from 0) (net.last_number 0) && leb 1 (net.last_number 0)) (not
      (net.records 0 (net.last_number 0) z).gone) may in
      let b = and_parts (is_node lists z && eqb (parent lists z) 0 && leb (net.whole_from 0) (net.last_number 0)) (leb 1 (net.last_number 0)) a.0 in
      let c = and_parts (is_node lists z && eqb (parent lists z) 0) (leb (net.whole_from 0) (net.last_number 0)) b.0 in
      let d = and_parts (is_node lists z) (eqb (parent lists z) 0) c.0 in
      let node : IsNode lists z = is_node_from lists z d.0 in
      let up : parent lists z ≡ 0 = eqb-true (parent lists z) 0 d.1 in
      let j : ℕ = net.last_number 0 in
      let there : net.records 0 j z ≡ bid_of_number lists p s z (number lists s z (cut_at (s.published (parent lists z)) j)) =
      ap (λ (y : ℕ). net.records y j z) (sym up)
      ∙ agrees.records z j node (omega (arith, leb-true (net.whole_from 0) (net.last_number 0) c.1, ap net.whole_from up))
      (omega (arith, agrees.last_number 0 (leaf_zero lists), ap (λ (y : ℕ). length (s.published y)) up)) in
      let none : has_news lists net 0 ≡ false =
      none_at_root lists net quiet.settled.auctioneer (caught lists law p net s agrees quiet.settled.bids 0) in
      let same : (net.heard z).number ≡ recorded_number net 0 z =
      no_news lists law p net s agrees 0 none z node up ∙ sym (newest_record lists law p net s agrees 0 z node up) in
      let its_number : recorded_number net 0 z ≡ number lists s z (cut_at (s.published (parent lists z)) j) =
      ap (λ (b : BidMessage). b.number) there in
      let stays : (net.heard z).gone ≡ false =
      heard_gone net s agrees z node ∙ ap (is_gone lists z) (same ∙ its_number) ∙ sym (ap (λ (b : BidMessage). b.gone) there)
      ∙ not-true (net.records 0 j z).gone a.1 in
      let at = quiet.settled.told z node up stays in
      omega (arith, at.2, quiet.settled.prices z at.0 node at.1)

  -- what does not change stays
  pub quiet_step : (net : Network) (s : State) → NetworkAgrees lists p net s → IsQuiet lists net → (e : Event) → IsCarried lists e →
      IsQuiet lists (network_step lists p net e)
  unfolding is_new_bid can_send is_new_price
  quiet_step net s agrees quiet (Bids d) carried = absurd carried
  quiet_step net s agrees quiet (TakesBid x k) carried =
      let bid : BidMessage = sent_bid p net x k in
      either (IsQuiet lists) (is_new_bid lists net x bid) (after_taking_bid net x bid) net
      (λ e.
      let parts = and_parts (is_node lists x) (ltb (net.heard x).number bid.number) e in
      let node : IsNode lists x = is_node_from lists x parts.0 in
      let lt : (net.heard x).number < bid.number = ltb-true (net.heard x).number bid.number parts.1 in
      elim (cases_lt k (length (net.bids_sent x))) [
        | inl inside ↦ absurd (omega (
          arith,
          lt,
          (agrees.bids_sent x k node inside).0,
          own_is lists p net s agrees x,
          quiet.settled.bids x node,
        ))
        | inr ge ↦ absurd (omega (arith, lt, ap (λ (b : BidMessage). b.number) (past (net.bids_sent x) k (nothing_heard p) ge)))
      ])
      (λ e. quiet)
  quiet_step net s agrees quiet (Sends c) carried =
      let test : Bool = is_node lists c && not (is_leaf lists c) && is_caught_up lists net c && has_news lists net c in
      either (IsQuiet lists) (can_send lists net c) (after_sending p net c) net
      (λ e.
      let a = and_parts test _ e in
      let b = and_parts (is_node lists c && not (is_leaf lists c) && is_caught_up lists net c) (has_news lists net c) a.0 in
      let d = and_parts (is_node lists c && not (is_leaf lists c)) (is_caught_up lists net c) b.0 in
      let f = and_parts (is_node lists c) (not (is_leaf lists c)) d.0 in
      let node : IsNode lists c = is_node_from lists c f.0 in
      absurd (both_ways (can_send lists net c) (quiet.settled.relays c (node.0, node.1, not-true (is_leaf lists c) f.1)) e))
      (λ e. quiet)
  quiet_step net s agrees quiet Clears carried =
      either (IsQuiet lists) (can_clear lists net) (after_clearing lists p net) net
      (λ e. absurd (both_ways (can_clear lists net) quiet.settled.auctioneer e))
      (λ e. quiet)
  quiet_step net s agrees quiet (TakesPrice x k) carried =
      let price : PriceMessage = sent_price net x k in
      either (IsQuiet lists) (is_new_price lists net x price)
      (cond (is_leaf lists x) (after_taking_price net x price) (after_relay_price lists p net x price)) net
      (λ e.
      let parts = and_parts (is_node lists x) (ltb (net.taken x).index price.index) e in
      let node : IsNode lists x = is_node_from lists x parts.0 in
      let lt : (net.taken x).index < price.index = ltb-true (net.taken x).index price.index parts.1 in
      elim (cases_lt k (length (net.prices_sent x))) [
        | inl inside ↦ absurd (omega (arith, lt, quiet.settled.prices x k node inside))
        | inr ge ↦ absurd (omega (arith, lt, ap (λ (q : PriceMessage). q.index) (past (net.prices_sent x) k no_price ge)))
      ])
      (λ e. quiet)
  quiet_step net s agrees quiet (Restarts y k) carried = absurd carried
  quiet_step net s agrees quiet (Rebuilds y) carried =
      either (IsQuiet lists) (can_rebuild lists net y) (after_rebuilding net y) net
      (λ e. absurd (both_ways (can_rebuild lists net y) (quiet.rebuilt y carried.0 carried.1) e))
      (λ e. quiet)
  quiet_step net s agrees quiet (StopsBidding x) carried = absurd carried
  quiet_step net s agrees quiet (Resends x) carried =
      either (IsQuiet lists) (can_resend lists net x) (after_resending lists p net x) net
      (λ e. quiet_with net quiet (after_resending lists p net x).bids_sent net.prices_sent (keeps_all no_price net.prices_sent) quiet.settled.prices)
      (λ e. quiet)
  quiet_step net s agrees quiet (PassesToOne z k) carried = absurd carried
  quiet_step net s agrees quiet StopsClearing carried = absurd carried
  quiet_step net s agrees quiet (TellsOne z) carried =
      let price : PriceMessage = price_message (net.records 0 (net.last_number 0) z).number (net.last_number 0)
      (clearing_step (p.add 0 (λ x. (net.records 0 (net.last_number 0) x).demand))) in
      either (IsQuiet lists) (can_tell_one lists net z) (after_telling_one p net z) net
      (λ e. quiet_with net quiet net.bids_sent (after_telling_one p net z).prices_sent (keeps_pushed no_price net.prices_sent z price)
      (λ x k node lt. each_sent (λ (y : ℕ) (q : PriceMessage). q.index ≤ (net.taken y).index) net.prices_sent z price no_price
      (told_again net s agrees quiet z e) x (λ i inside. quiet.settled.prices x i node inside) k lt))
      (λ e. quiet)

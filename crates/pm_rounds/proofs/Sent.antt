-- While no node stops between storing and sending, all that was made was sent.
use Rattle.std.proofs.Common.{◌≡◌, ◌∙◌, sym, ap, ℕ, ◌+◌, ◌<◌, ◌≤◌, Bool, true, false, cond, not, eqb, ltb, leb, ◌&&◌, inl}
use Rattle.std.proofs.Common.{inr, List, [], ◌∷◌, ◌++◌, length, refl, arith}
use Rattle.std.proofs.lemmas.Bool.{cases_eq, cases_Bool, and_parts, cond-true, cond-false, eq-eqb, not-true}
use Rattle.pm_bid.specs.Clearing.{clearing_step}
use Rattle.pm_market.specs.Lists.{Lists, parent, is_leaf, changes, IsNode, IsLeaf, IsInner, Lawful}
use Rattle.pm_market.specs.State.{State, update}
use Rattle.pm_market.specs.Legality.{is_node}
use Rattle.pm_market.proofs.Cuts.{updated_same, updated_other}
use Rattle.pm_market.proofs.Legality.{is_node_from}
use Rattle.pm_laws.specs.Gone.{is_gone}
use Rattle.pm_net.specs.Pricing.{Pricing}
use Rattle.pm_net.specs.Messages.{BidMessage, PriceMessage, price_message, nothing_heard, no_price}
use Rattle.pm_net.specs.Network.{Network, start_network, sent_bid, sent_price}
use Rattle.pm_net.specs.Running.{recorded_number, device_bid, relay_bid, relay_step, is_new_bid, is_caught_up, has_news, can_send, can_clear}
use Rattle.pm_net.specs.Running.{after_bidding, after_taking_bid, after_sending, after_clearing, after_taking_price, after_answer, after_passing, heard_sum}
use Rattle.pm_net.specs.Restarts.{records_left, number_alone, nothing_left, after_restart, can_rebuild, after_rebuilding, can_pass_to_one, after_passing_to_one}
use Rattle.pm_net.specs.Restarts.{can_resend, after_resending, newest_bid, can_tell_one, after_telling_one}
use Rattle.pm_net.specs.Events.{Event, network_step, Bids, TakesBid, Sends, Clears, TakesPrice, Restarts, Rebuilds, StopsBidding}
use Rattle.pm_net.specs.Events.{Resends, PassesToOne, StopsClearing, TellsOne, may_bid}
use Rattle.pm_net.specs.Agrees.{NetworkAgrees}
use Rattle.pm_net.specs.Settled.{made_number}
use Rattle.pm_rounds.specs.Sent.{AllSent, IsNoStop}
use Rattle.pm_rounds.specs.Rounds.{IsCarried}
use Rattle.pm_net.proofs.Messages.{either, some_sent, new_sent, two_same, two_other}
use Rattle.pm_net.proofs.Down.{down_old, down_new}
use Rattle.pm_net.proofs.News.{no_news, newest_record}
use Rattle.pm_net.proofs.Steps.{hears_each}

-- a bid of this number was sent
abbrev pub BidSent : Pricing → (ℕ → List BidMessage) → ℕ → ℕ → Type 0
BidSent p channels x n = (k : ℕ) × (k < length (channels x)) × ((Rattle.std.proofs.Common.get_or (channels x) k (nothing_heard p)).number ≡ n)

abbrev pub PriceSent : (ℕ → List PriceMessage) → ℕ → ℕ → Type 0
PriceSent channels x j = (k : ℕ) × (k < length (channels x)) × ((Rattle.std.proofs.Common.get_or (channels x) k no_price).index ≡ j)

module _ (lists : Lists) (p : Pricing) (net : Network) (sent : AllSent lists p net) where
  -- the same was made, and what was sent is there still
  same_made : (after : Network) → ((x : ℕ) → IsNode lists x → made_number lists after x ≡ made_number lists net x) →
      after.last_number 0 ≡ net.last_number 0 →
      ((x : ℕ) → IsNode lists x → parent lists x ≡ 0 → recorded_number after 0 x ≡ recorded_number net 0 x) →
      ((x n : ℕ) → BidSent p net.bids_sent x n → BidSent p after.bids_sent x n) →
      ((x j : ℕ) → PriceSent net.prices_sent x j → PriceSent after.prices_sent x j) → AllSent lists p after
  same_made after made last recorded bids prices = record {
    bids = λ x node some.
        let at = bids x (made_number lists net x) (sent.bids x node (omega (arith, some, made x node))) in
        (at.0, at.1, at.2 ∙ sym (made x node));
    prices = λ x node up stays.
        let at = prices x (net.last_number 0) (sent.prices x node up (ap (is_gone lists x) (sym (recorded x node up)) ∙ stays)) in
        (at.0, at.1, at.2 ∙ sym last);
  }

  bids_pushed : (x : ℕ) (bid : BidMessage) (y n : ℕ) → BidSent p net.bids_sent y n →
      BidSent p (update net.bids_sent x (net.bids_sent x ++ bid ∷ [])) y n
  bids_pushed x bid y n some = some_sent (λ (b : BidMessage). b.number ≡ n) net.bids_sent x bid (nothing_heard p) y some

  prices_pushed : (x : ℕ) (price : PriceMessage) (y j : ℕ) → PriceSent net.prices_sent y j →
      PriceSent (update net.prices_sent x (net.prices_sent x ++ price ∷ [])) y j
  prices_pushed x price y j some = some_sent (λ (q : PriceMessage). q.index ≡ j) net.prices_sent x price no_price y some

  takes : (x k : ℕ) → AllSent lists p (network_step lists p net (TakesPrice x k))
  takes x k =
      let price : PriceMessage = sent_price net x k in
      hears_each lists p net x k (AllSent lists p) sent
      (same_made (after_taking_price net x price) (λ y node. refl) refl (λ y node up. refl) (λ y n some. some) (λ y j some. some))
      (same_made (after_passing lists p net x price) (λ y node. refl) refl (λ y node up. refl) (λ y n some. some)
      (λ y j some. down_old lists net.prices_sent x (net.records x price.number) price.index (relay_step p net x price) y
      (λ (q : PriceMessage). q.index ≡ j) some))
      (same_made (after_answer net x price) (λ y node. refl) refl (λ y node up. refl) (λ y n some. some) (λ y j some. some))

  sends : (c : ℕ) → can_send lists net c ≡ true → AllSent lists p (after_sending p net c)
  unfolding can_send
  sends c e =
      let a = and_parts (is_node lists c && not (is_leaf lists c) && is_caught_up lists net c && has_news lists net c) _ e in
      let b = and_parts (is_node lists c && not (is_leaf lists c) && is_caught_up lists net c) (has_news lists net c) a.0 in
      let d = and_parts (is_node lists c && not (is_leaf lists c)) (is_caught_up lists net c) b.0 in
      let f = and_parts (is_node lists c) (not (is_leaf lists c)) d.0 in
      let node : IsNode lists c = is_node_from lists c f.0 in
      let inner : IsInner lists c = not-true (is_leaf lists c) f.1 in
      let after : Network = after_sending p net c in
      let l : ℕ = net.last_number c + 1 in
      let zero_last : after.last_number 0 ≡ net.last_number 0 = updated_other net.last_number c l 0 (λ z. omega (arith, z, node.0)) in
      record {
        bids = λ x x_node some. elim (cases_eq x c) [
          | inl is ↦ new_sent (λ (q : BidMessage). q.number ≡ made_number lists after x) net.bids_sent c (relay_bid p net c) (nothing_heard p) x is
              (sym (ap (made_number lists after) is ∙ cond-false (is_leaf lists c) (net.counts c) (after.last_number c) inner
              ∙ updated_same net.last_number c l))
          | inr ne ↦
              let same : made_number lists after x ≡ made_number lists net x =
              ap (λ (n : ℕ). cond (is_leaf lists x) (net.counts x) n) (updated_other net.last_number c l x ne) in
              let at = bids_pushed c (relay_bid p net c) x (made_number lists net x) (sent.bids x x_node (omega (arith, some, same))) in
              (at.0, at.1, at.2 ∙ sym same)
        ];
        prices = λ x x_node up stays.
            let same : recorded_number after 0 x ≡ recorded_number net 0 x =
            ap (λ (n : ℕ). (after.records 0 n x).number) zero_last
            ∙ ap (λ (r : ℕ → ℕ → BidMessage). (r (net.last_number 0) x).number)
            (updated_other net.records c (update (net.records c) l net.heard) 0 (λ z. omega (arith, z, node.0))) in
            let at = sent.prices x x_node up (ap (is_gone lists x) (sym same) ∙ stays) in
            (at.0, at.1, at.2 ∙ sym zero_last);
      }

  -- what the auctioneer clears goes to each child that is not gone
  clears : Lawful lists → (s : State) → NetworkAgrees lists p net s → AllSent lists p (after_clearing lists p net)
  clears law s agrees =
      let after : Network = after_clearing lists p net in
      let l : ℕ = net.last_number 0 + 1 in
      let now : after.last_number 0 ≡ l = updated_same net.last_number 0 l in
      record {
        bids = λ x node some.
            let same : made_number lists after x ≡ made_number lists net x =
            ap (λ (n : ℕ). cond (is_leaf lists x) (net.counts x) n) (updated_other net.last_number 0 l x (λ z. omega (arith, z, node.0))) in
            let at = sent.bids x node (omega (arith, some, same)) in
            (at.0, at.1, at.2 ∙ sym same);
        prices = λ x node up stays.
            let number : recorded_number after 0 x ≡ (net.heard x).number =
            ap (λ (b : ℕ → BidMessage). (b x).number) (two_same net.records 0 l net.heard 0 (after.last_number 0) refl now) in
            let there : (net.heard x).gone ≡ false =
            ap (λ (b : BidMessage). b.gone) (agrees.heard x node).1 ∙ ap (is_gone lists x) (sym number) ∙ stays in
            down_new lists net.prices_sent 0 net.heard l (clearing_step (heard_sum p net 0)) x
            (λ (q : PriceMessage). q.index ≡ after.last_number 0) up there (sym now);
      }

  -- a node that has its record again
  rebuilds : Lawful lists → (s : State) → NetworkAgrees lists p net s → (y : ℕ) → can_rebuild lists net y ≡ true →
      AllSent lists p (after_rebuilding net y)
  unfolding can_rebuild
  rebuilds law s agrees y e =
      let none : has_news lists net y ≡ false =
      not-true (has_news lists net y) (and_parts (ltb (net.last_number y) (net.whole_from y)) (not (has_news lists net y)) e).1 in
      let after : Network = after_rebuilding net y in
      same_made after (λ x node. refl) refl (λ x node up. elim (cases_eq y 0) [
        | inl z ↦ ap (λ (b : ℕ → BidMessage). (b x).number)
            (two_same net.records y (net.last_number y) net.heard 0 (net.last_number 0) (sym z) (ap net.last_number (sym z)))
            ∙ no_news lists law p net s agrees y none x node (up ∙ sym z)
            ∙ sym (newest_record lists law p net s agrees y x node (up ∙ sym z)) ∙ ap (λ (i : ℕ). recorded_number net i x) z
        | inr ne ↦ ap (λ (b : ℕ → BidMessage). (b x).number)
            (two_other net.records y (net.last_number y) net.heard 0 (net.last_number 0) (λ z n. ne (sym z)))
      ]) (λ x n some. some) (λ x j some. some)

  -- a node that restarts knows the numbers in its newest record
  restarts : (y k : ℕ) → AllSent lists p (after_restart lists p net y k)
  restarts y k =
      let after : Network = after_restart lists p net y k in
      same_made after (λ x node. refl) refl (λ x node up. elim (cases_eq y 0) [
        | inl z ↦
            ap (λ (r : ℕ → ℕ → BidMessage). (r (net.last_number 0) x).number)
            (ap (λ (i : ℕ). update net.records y (records_left net y) i) (sym z) ∙ updated_same net.records y (records_left net y))
            ∙ ap (λ (b : BidMessage). b.number)
            (cond-true (eqb (net.last_number 0) (net.last_number y)) (number_alone (net.records y (net.last_number 0) x)) nothing_left
            (eq-eqb (net.last_number 0) (net.last_number y) (ap net.last_number (sym z))))
            ∙ ap (λ (i : ℕ). (net.records i (net.last_number 0) x).number) z
        | inr ne ↦ ap (λ (r : ℕ → ℕ → BidMessage). (r (net.last_number 0) x).number)
            (updated_other net.records y (records_left net y) 0 (λ z. ne (sym z)))
      ]) (λ x n some. some) (λ x j some. some)

  bids_own : (d : ℕ) → may_bid lists net d ≡ true → AllSent lists p (after_bidding lists p net d)
  bids_own d e =
      let after : Network = after_bidding lists p net d in
      let leaf : IsLeaf lists d = (and_parts (is_leaf lists d) (ltb (net.counts d) (changes lists d)) e).0 in
      let n : ℕ = net.counts d + 1 in
      record {
        bids = λ x node some. elim (cases_eq x d) [
          | inl is ↦ new_sent (λ (q : BidMessage). q.number ≡ made_number lists after x) net.bids_sent d (device_bid lists p d n) (nothing_heard p) x is
              (sym (ap (made_number lists after) is ∙ cond-true (is_leaf lists d) (after.counts d) (net.last_number d) leaf
              ∙ updated_same net.counts d n))
          | inr ne ↦
              let same : made_number lists after x ≡ made_number lists net x =
              ap (λ (m : ℕ). cond (is_leaf lists x) m (net.last_number x)) (updated_other net.counts d n x ne) in
              let at = bids_pushed d (device_bid lists p d n) x (made_number lists net x) (sent.bids x node (omega (arith, some, same))) in
              (at.0, at.1, at.2 ∙ sym same)
        ];
        prices = sent.prices;
      }

  -- an event that is no stop leaves all sent
  pub sent_step : Lawful lists → (s : State) → NetworkAgrees lists p net s → (e : Event) → IsNoStop e → AllSent lists p (network_step lists p net e)
  sent_step law s agrees (Bids d) runs =
      either (AllSent lists p) (may_bid lists net d) (after_bidding lists p net d) net (λ e. bids_own d e) (λ e. sent)
  sent_step law s agrees (TakesBid x k) runs =
      either (AllSent lists p) (is_new_bid lists net x (sent_bid p net x k)) (after_taking_bid net x (sent_bid p net x k)) net
      (λ e. same_made (after_taking_bid net x (sent_bid p net x k)) (λ y node. refl) refl (λ y node up. refl) (λ y n some. some) (λ y j some. some))
      (λ e. sent)
  sent_step law s agrees (Sends c) runs =
      either (AllSent lists p) (can_send lists net c) (after_sending p net c) net (λ e. sends c e) (λ e. sent)
  sent_step law s agrees Clears runs =
      either (AllSent lists p) (can_clear lists net) (after_clearing lists p net) net (λ e. clears law s agrees) (λ e. sent)
  sent_step law s agrees (TakesPrice x k) runs = takes x k
  sent_step law s agrees (Restarts y k) runs = restarts y k
  sent_step law s agrees (Rebuilds y) runs =
      either (AllSent lists p) (can_rebuild lists net y) (after_rebuilding net y) net (λ e. rebuilds law s agrees y e) (λ e. sent)
  sent_step law s agrees (StopsBidding x) runs = absurd runs
  sent_step law s agrees (Resends x) runs =
      either (AllSent lists p) (can_resend lists net x) (after_resending lists p net x) net
      (λ e. same_made (after_resending lists p net x) (λ y node. refl) refl (λ y node up. refl)
      (bids_pushed x (newest_bid lists p net x)) (λ y j some. some))
      (λ e. sent)
  sent_step law s agrees (PassesToOne z k) runs =
      let price : PriceMessage = sent_price net (parent lists z) k in
      either (AllSent lists p) (can_pass_to_one lists net z price) (after_passing_to_one lists p net z price) net
      (λ e. same_made (after_passing_to_one lists p net z price) (λ y node. refl) refl (λ y node up. refl) (λ y n some. some)
      (prices_pushed z (price_message (net.records (parent lists z) price.number z).number price.index (relay_step p net (parent lists z) price))))
      (λ e. sent)
  sent_step law s agrees StopsClearing runs = absurd runs
  sent_step law s agrees (TellsOne z) runs =
      either (AllSent lists p) (can_tell_one lists net z) (after_telling_one p net z) net
      (λ e. same_made (after_telling_one p net z) (λ y node. refl) refl (λ y node up. refl) (λ y n some. some)
      (prices_pushed z (price_message (net.records 0 (net.last_number 0) z).number (net.last_number 0)
      (clearing_step (p.add 0 (λ x. (net.records 0 (net.last_number 0) x).demand))))))
      (λ e. sent)

-- at the start nothing was made
pub sent_start : (lists : Lists) (p : Pricing) → AllSent lists p (start_network p)
unfolding is_gone
sent_start lists p = record {
  bids = λ x node some. elim (cases_Bool (is_leaf lists x)) [
    | inl e ↦ absurd (omega (arith, some, cond-true {A = ℕ} (is_leaf lists x) 0 0 e))
    | inr e ↦ absurd (omega (arith, some, cond-false {A = ℕ} (is_leaf lists x) 0 0 e))
  ];
  prices = λ x node up stays. elim (cases_Bool (is_gone lists x 0)) [
    | inl e ↦ absurd (Rattle.std.proofs.lemmas.Bool.both_ways (is_gone lists x 0) stays e)
    | inr e ↦ absurd (Rattle.std.proofs.lemmas.Bool.both_ways (is_gone lists x 0) e (Rattle.pm_laws.proofs.Gone.gone_zero lists x))
  ];
}

-- a carried event is no stop
pub carried_on : (lists : Lists) (e : Event) → IsCarried lists e → IsNoStop e
carried_on lists (Bids d) carried = tt
carried_on lists (TakesBid x k) carried = tt
carried_on lists (Sends c) carried = tt
carried_on lists Clears carried = tt
carried_on lists (TakesPrice x k) carried = tt
carried_on lists (Restarts y k) carried = tt
carried_on lists (Rebuilds y) carried = tt
carried_on lists (StopsBidding x) carried = carried
carried_on lists (Resends x) carried = tt
carried_on lists (PassesToOne z k) carried = tt
carried_on lists StopsClearing carried = carried
carried_on lists (TellsOne z) carried = tt

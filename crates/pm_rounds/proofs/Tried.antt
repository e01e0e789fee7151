-- In a round in which nothing rises each event that was asked for met the network that is there, and did nothing.
use Rattle.std.proofs.Common.{◌≡◌, ◌∙◌, sym, ap, subst, ℕ, zero, suc, ◌+◌, ◌<◌, ◌≤◌, true, false, cond, not, ltb, inl}
use Rattle.std.proofs.Common.{inr, List, [], ◌∷◌, length, get_or, arith}
use Rattle.std.proofs.lemmas.Bool.{cases_lt, cases_Bool, and_parts, and_from, cond-true, lt-ltb, ltb-true}
use Rattle.std.specs.List.{All}
use Rattle.pm_market.specs.Lists.{Lists, phases, is_leaf, IsNode, IsInner, Lawful}
use Rattle.pm_market.specs.State.{State}
use Rattle.pm_market.specs.Moves.{after_from}
use Rattle.pm_market.proofs.Cuts.{updated_same}
use Rattle.pm_market.proofs.Legality.{is_node_at}
use Rattle.pm_net.specs.Pricing.{Pricing, GoesByNodes}
use Rattle.pm_net.specs.Messages.{BidMessage, PriceMessage}
use Rattle.pm_net.specs.Network.{Network, sent_bid, sent_price}
use Rattle.pm_net.specs.Running.{is_new_bid, is_caught_up, has_news, can_send, can_clear, is_new_price}
use Rattle.pm_net.specs.Running.{after_taking_bid, after_sending, after_clearing, after_taking_price, after_relay_price}
use Rattle.pm_net.specs.Restarts.{can_rebuild, after_rebuilding}
use Rattle.pm_net.specs.Events.{Event, network_step, network_after, TakesBid, Sends, Clears, TakesPrice, Rebuilds}
use Rattle.pm_net.specs.Agrees.{NetworkAgrees, GoesOn}
use Rattle.pm_rounds.specs.Rounds.{IsCarried}
use Rattle.pm_net.proofs.Resting.{caught}
use Rattle.pm_net.proofs.Runs.{event_goes_on}
use Rattle.pm_net.proofs.Unstuck.{takes_newer}
use Rattle.pm_rounds.proofs.Counting.{count_of, OnlySends, sends_nothing, sends_on, moves, step_rises}
use Rattle.pm_rounds.proofs.SameSent.{same_caught, same_send, same_clear, same_rebuild, same_heard, same_taken, bid_there, price_there}

-- ---- a round in which nothing rises

-- an event of the round met a network that differs from the first in what was sent alone, and does not raise it
pub record Tried (lists : Lists) (p : Pricing) (net : Network) (e : Event) : Type 0 where
  -- the network that it met, a state that this stands for, and what was sent by then
  pub mid : Network
  pub state : State
  -- it stands for the state
  pub agrees : NetworkAgrees lists p mid state
  pub sends : OnlySends p net mid
  -- and it only sends there
  pub stays : OnlySends p mid (network_step lists p mid e)

-- what is counted never falls in a round
pub after_rises : (lists : Lists) (p : Pricing) (events : List Event) (net : Network) → All (IsCarried lists) events →
    count_of lists net ≤ count_of lists (network_after lists p net events)
after_rises lists p [] net all = omega arith
after_rises lists p (e ∷ es) net all = omega (
  arith,
  step_rises lists p net e (all 0 e (omega arith)),
  after_rises lists p es (network_step lists p net e) (λ k o lt. all (suc k) o (omega (arith, lt))),
)

module _ (lists : Lists) (law : Lawful lists) (one : phases lists ≡ 1) (p : Pricing) (by : GoesByNodes lists p) where
  -- an event that raises nothing only sends
  pub only_sends : (net : Network) (e : Event) → IsCarried lists e → count_of lists (network_step lists p net e) ≤ count_of lists net →
      OnlySends p net (network_step lists p net e)
  only_sends net e carried le = elim (moves lists p net e carried) [
    | inl w ↦ w
    | inr w ↦ absurd (omega (arith, w.0, le))
  ]

  -- each event of a round in which nothing rises was tried
  pub tried : (events : List Event) (net : Network) (s : State) → NetworkAgrees lists p net s → All (IsCarried lists) events →
      count_of lists (network_after lists p net events) ≤ count_of lists net → (e : Event) (k : ℕ) → k < length events →
      get_or events k e ≡ e → Tried lists p net e
  tried [] net s agrees all le e k lt is = absurd (omega (arith, lt))
  tried (first ∷ es) net s agrees all le e zero lt is =
      let carried : IsCarried lists first = all 0 first (omega arith) in
      let rest : All (IsCarried lists) es = λ k o lt. all (suc k) o (omega (arith, lt)) in
      let up = after_rises lists p es (network_step lists p net first) rest in
      record {
        mid = net;
        state = s;
        agrees = agrees;
        sends = sends_nothing p net;
        stays = subst (λ (f : Event). OnlySends p net (network_step lists p net f)) is
            (only_sends net first carried (omega (arith, up, le)));
      }
  tried (first ∷ es) net s agrees all le e (suc k) lt is =
      let carried : IsCarried lists first = all 0 first (omega arith) in
      let next : Network = network_step lists p net first in
      let rest : All (IsCarried lists) es = λ k o lt. all (suc k) o (omega (arith, lt)) in
      let up = after_rises lists p es next rest in
      let sends : OnlySends p net next = only_sends net first carried (omega (arith, up, le)) in
      let goes : GoesOn lists p s next = event_goes_on lists law one p by net s agrees first in
      let later = tried es next (after_from lists s goes.moves) goes.agrees rest
      (omega (arith, le, step_rises lists p net first carried)) e k (omega (arith, lt)) is in
      record {
        mid = later.mid;
        state = later.state;
        agrees = later.agrees;
        sends = sends_on p net next later.mid sends later.sends;
        stays = later.stays;
      }

  -- the bid that was given is not new
  pub bid_old : (net : Network) (x k : ℕ) → IsNode lists x → k < length (net.bids_sent x) → Tried lists p net (TakesBid x k) →
      (sent_bid p net x k).number ≤ (net.heard x).number
  unfolding is_new_bid
  bid_old net x k node lt t =
      let mid : Network = t.mid in
      let bid : BidMessage = sent_bid p mid x k in
      elim (cases_lt (mid.heard x).number bid.number) [
        | inr ge ↦ omega (
          arith,
          ge,
          same_heard lists p net mid t.sends x,
          ap (λ (b : BidMessage). b.number) (bid_there lists p net mid t.sends x k lt).1,
        )
        | inl newer ↦
            let is : network_step lists p mid (TakesBid x k) ≡ after_taking_bid mid x bid =
            cond-true (is_new_bid lists mid x bid) (after_taking_bid mid x bid) mid
            (and_from _ _ (is_node_at lists x node) (lt-ltb (mid.heard x).number bid.number newer)) in
            absurd (omega (
              arith,
              newer,
              same_heard lists p mid (network_step lists p mid (TakesBid x k)) t.stays x,
              ap (λ (n : Network). (n.heard x).number) is,
              ap (λ (b : BidMessage). b.number) (updated_same mid.heard x bid),
            ))
      ]

  -- a relay that was asked had nothing to send
  pub cannot_send : (net : Network) (c : ℕ) → Tried lists p net (Sends c) → can_send lists net c ≡ false
  cannot_send net c t =
      let mid : Network = t.mid in
      sym (same_send lists p net mid t.sends c) ∙ elim (cases_Bool (can_send lists mid c)) [
        | inr e ↦ e
        | inl e ↦
            let is : network_step lists p mid (Sends c) ≡ after_sending p mid c = cond-true (can_send lists mid c) (after_sending p mid c) mid e in
            absurd (omega (
              arith,
              ap (λ (n : Network). n.last_number c) t.stays.is,
              ap (λ (n : Network). n.last_number c) is,
              updated_same mid.last_number c (mid.last_number c + 1),
            ))
      ]

  -- the auctioneer that was asked had nothing to clear
  pub cannot_clear : (net : Network) → Tried lists p net Clears → can_clear lists net ≡ false
  cannot_clear net t =
      let mid : Network = t.mid in
      sym (same_clear lists p net mid t.sends) ∙ elim (cases_Bool (can_clear lists mid)) [
        | inr e ↦ e
        | inl e ↦
            let is : network_step lists p mid Clears ≡ after_clearing lists p mid = cond-true (can_clear lists mid) (after_clearing lists p mid) mid e in
            absurd (omega (
              arith,
              ap (λ (n : Network). n.last_number 0) t.stays.is,
              ap (λ (n : Network). n.last_number 0) is,
              updated_same mid.last_number 0 (mid.last_number 0 + 1),
            ))
      ]

  -- a node that looked did not have its record again
  pub cannot_rebuild : (net : Network) (y : ℕ) → Tried lists p net (Rebuilds y) → can_rebuild lists net y ≡ false
  unfolding can_rebuild
  cannot_rebuild net y t =
      let mid : Network = t.mid in
      sym (same_rebuild lists p net mid t.sends y) ∙ elim (cases_Bool (can_rebuild lists mid y)) [
        | inr e ↦ e
        | inl e ↦
            let is : network_step lists p mid (Rebuilds y) ≡ after_rebuilding mid y =
            cond-true (can_rebuild lists mid y) (after_rebuilding mid y) mid e in
            absurd (omega (
              arith,
              ltb-true (mid.last_number y) (mid.whole_from y)
                  (and_parts (ltb (mid.last_number y) (mid.whole_from y)) (not (has_news lists mid y)) e).0,
              ap (λ (n : Network). n.whole_from y) t.stays.is,
              ap (λ (n : Network). n.whole_from y) is,
              updated_same mid.whole_from y (mid.last_number y),
            ))
      ]

  -- the price that was given is not new
  pub price_old : (net : Network) (x k : ℕ) → IsNode lists x → is_caught_up lists net x ≡ true →
      (IsInner lists x → can_rebuild lists net x ≡ false) → k < length (net.prices_sent x) → Tried lists p net (TakesPrice x k) →
      (sent_price net x k).index ≤ (net.taken x).index
  unfolding is_new_price
  price_old net x k node caught none lt t =
      let mid : Network = t.mid in
      let price : PriceMessage = sent_price mid x k in
      let there = price_there lists p net mid t.sends x k lt in
      elim (cases_lt (mid.taken x).index price.index) [
        | inr ge ↦ omega (arith, ge, same_taken lists p net mid t.sends x, ap (λ (q : PriceMessage). q.index) there.1)
        | inl newer ↦
            let takes : ((network_step lists p mid (TakesPrice x k)).taken x).index ≡ price.index =
            elim (cases_Bool (is_leaf lists x)) [
              | inl leaf ↦ ap (λ (n : Network). (n.taken x).index) (
                  cond-true (is_new_price lists mid x price) (cond (is_leaf lists x) (after_taking_price mid x price)
                  (after_relay_price lists p mid x price)) mid
                  (and_from _ _ (is_node_at lists x node) (lt-ltb (mid.taken x).index price.index newer))
                  ∙ cond-true (is_leaf lists x) (after_taking_price mid x price) (after_relay_price lists p mid x price) leaf)
                  ∙ ap (λ (q : PriceMessage). q.index) (updated_same mid.taken x price)
              | inr inner ↦ ap (λ (q : PriceMessage). q.index) (takes_newer lists law p mid t.state t.agrees x k (node.0, node.1, inner) there.0 newer
                  (same_caught lists p net mid t.sends x ∙ caught) (same_rebuild lists p net mid t.sends x ∙ none inner))
            ] in
            absurd (omega (arith, newer, takes, same_taken lists p mid (network_step lists p mid (TakesPrice x k)) t.stays x))
      ]

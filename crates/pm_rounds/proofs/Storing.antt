-- If no relay stops between storing a bid and sending it, each relay sent its newest bid: so from every state each can go on.
use Rattle.std.proofs.Common.{◌≡◌, ◌∙◌, sym, ap, ℕ, ◌+◌, ◌-◌, ◌<◌, ◌≤◌, Bool, true, cond, not, ◌&&◌, inl, inr, List, []}
use Rattle.std.proofs.Common.{◌∷◌, ◌++◌, suc, refl, arith}
use Rattle.std.proofs.lemmas.Bool.{cases_eq, and_parts, not-true}
use Rattle.std.specs.List.{All}
use Rattle.pm_market.specs.Lists.{Lists, phases, is_leaf, parent, is_member, IsLeaf, IsConcentrator, Lawful}
use Rattle.pm_market.specs.State.{State, start, update}
use Rattle.pm_market.specs.Legality.{is_node}
use Rattle.pm_market.specs.Moves.{after_from}
use Rattle.pm_market.proofs.Cuts.{updated_same, updated_other}
use Rattle.pm_market.proofs.Legality.{is_node_from}
use Rattle.pm_net.specs.Pricing.{Pricing, GoesByNodes}
use Rattle.pm_net.specs.Messages.{BidMessage, price_message, nothing_heard}
use Rattle.pm_net.specs.Network.{Network, start_network, sent_bid, sent_price}
use Rattle.pm_net.specs.Running.{device_bid, relay_bid, is_new_bid, is_caught_up, has_news, can_send, can_clear}
use Rattle.pm_net.specs.Running.{after_bidding, after_taking_bid, after_sending, after_clearing}
use Rattle.pm_net.specs.Restarts.{can_rebuild, after_rebuilding, device_stopped, relay_stopped, auctioneer_stopped, can_pass_to_one, after_passing_to_one}
use Rattle.pm_net.specs.Restarts.{can_resend, after_resending, newest_bid, can_tell_one, after_telling_one}
use Rattle.pm_net.specs.Events.{Event, network_step, network_after, Bids, TakesBid, Sends, Clears, TakesPrice, Restarts, Rebuilds, StopsBidding}
use Rattle.pm_net.specs.Events.{Resends, PassesToOne, StopsClearing, TellsOne, may_bid}
use Rattle.pm_net.specs.Agrees.{NetworkAgrees, GoesOn}
use Rattle.pm_net.specs.Settled.{IsSettledNetwork}
use Rattle.pm_net.proofs.Messages.{either, some_sent, new_sent}
use Rattle.pm_net.proofs.Runs.{event_goes_on}
use Rattle.pm_net.proofs.Starting.{starting}
use Rattle.pm_net.proofs.Steps.{hears_each}
use Rattle.pm_rounds.specs.Rounds.{AreFullRounds, after_rounds}
use Rattle.pm_rounds.specs.Sent.{SentNumber, CanGoOn, RelaySendsAtOnce}
use Rattle.pm_rounds.specs.Bounds.{full_round_bound}
use Rattle.pm_rounds.proofs.Sent.{BidSent}
use Rattle.pm_rounds.proofs.Stopping.{full_settles, full_held}

-- each relay that made a bid sent its newest
abbrev pub RelaysSent : Lists → Pricing → Network → Type 0
RelaysSent lists p net = (c : ℕ) → IsConcentrator lists c → 1 ≤ net.last_number c → SentNumber p net c (net.last_number c)

module _ (lists : Lists) (p : Pricing) (net : Network) (sent : RelaysSent lists p net) where
  -- no relay makes a bid, and what was sent is there still
  same_made : (after : Network) → ((c : ℕ) → IsConcentrator lists c → after.last_number c ≡ net.last_number c) →
      ((x n : ℕ) → BidSent p net.bids_sent x n → BidSent p after.bids_sent x n) → RelaysSent lists p after
  same_made after last bids c conc some =
      let at = bids c (net.last_number c) (sent c conc (omega (arith, some, last c conc))) in
      (at.0, at.1, at.2 ∙ sym (last c conc))

  pushed : (x : ℕ) (bid : BidMessage) (y n : ℕ) → BidSent p net.bids_sent y n → BidSent p (update net.bids_sent x (net.bids_sent x ++ bid ∷ [])) y n
  pushed x bid y n some = some_sent (λ (b : BidMessage). b.number ≡ n) net.bids_sent x bid (nothing_heard p) y some

  sends : (x : ℕ) → RelaysSent lists p (after_sending p net x)
  sends x c conc some =
      let after : Network = after_sending p net x in
      elim (cases_eq c x) [
        | inl is ↦ new_sent (λ (b : BidMessage). b.number ≡ after.last_number c) net.bids_sent x (relay_bid p net x) (nothing_heard p) c is
            (sym (ap after.last_number is ∙ updated_same net.last_number x (net.last_number x + 1)))
        | inr ne ↦
            let same : after.last_number c ≡ net.last_number c = updated_other net.last_number x (net.last_number x + 1) c ne in
            let at = pushed x (relay_bid p net x) c (net.last_number c) (sent c conc (omega (arith, some, same))) in
            (at.0, at.1, at.2 ∙ sym same)
      ]

  -- only a relay's number is one of a relay
  clears : (c : ℕ) → IsConcentrator lists c → update net.last_number 0 (net.last_number 0 + 1) c ≡ net.last_number c
  clears c conc = updated_other net.last_number 0 (net.last_number 0 + 1) c (λ z. omega (arith, z, conc.0))

  -- who may send is a relay
  sends_relay : (x : ℕ) → can_send lists net x ≡ true → IsConcentrator lists x
  unfolding can_send
  sends_relay x e =
      let a = and_parts (is_node lists x && not (is_leaf lists x) && is_caught_up lists net x && has_news lists net x) _ e in
      let b = and_parts (is_node lists x && not (is_leaf lists x) && is_caught_up lists net x) (has_news lists net x) a.0 in
      let d = and_parts (is_node lists x && not (is_leaf lists x)) (is_caught_up lists net x) b.0 in
      let f = and_parts (is_node lists x) (not (is_leaf lists x)) d.0 in
      let node = is_node_from lists x f.0 in
      (node.0, node.1, not-true (is_leaf lists x) f.1)

  at_once_step : (e : Event) → RelaySendsAtOnce lists e → RelaysSent lists p (network_step lists p net e)
  at_once_step (Bids d) once =
      either (RelaysSent lists p) (may_bid lists net d) (after_bidding lists p net d) net
      (λ e. same_made (after_bidding lists p net d) (λ c conc. refl) (pushed d (device_bid lists p d (net.counts d + 1)))) (λ e. sent)
  at_once_step (TakesBid x k) once =
      either (RelaysSent lists p) (is_new_bid lists net x (sent_bid p net x k)) (after_taking_bid net x (sent_bid p net x k)) net
      (λ e. same_made (after_taking_bid net x (sent_bid p net x k)) (λ c conc. refl) (λ x n some. some)) (λ e. sent)
  at_once_step (Sends x) once = either (RelaysSent lists p) (can_send lists net x) (after_sending p net x) net (λ e. sends x) (λ e. sent)
  at_once_step Clears once =
      either (RelaysSent lists p) (can_clear lists net) (after_clearing lists p net) net
      (λ e. same_made (after_clearing lists p net) clears (λ x n some. some)) (λ e. sent)
  at_once_step (TakesPrice x k) once = hears_each lists p net x k (RelaysSent lists p) sent sent sent sent
  at_once_step (Restarts y k) once = sent
  at_once_step (Rebuilds y) once =
      either (RelaysSent lists p) (can_rebuild lists net y) (after_rebuilding net y) net (λ e. sent) (λ e. sent)
  at_once_step (StopsBidding x) once =
      either (RelaysSent lists p) (may_bid lists net x) (device_stopped net x) (cond (can_send lists net x) (relay_stopped net x) net) (λ e. sent)
      (λ e. either (RelaysSent lists p) (can_send lists net x) (relay_stopped net x) net (λ may. absurd (once (sends_relay x may))) (λ may. sent))
  at_once_step (Resends x) once =
      either (RelaysSent lists p) (can_resend lists net x) (after_resending lists p net x) net
      (λ e. same_made (after_resending lists p net x) (λ c conc. refl) (pushed x (newest_bid lists p net x))) (λ e. sent)
  at_once_step (PassesToOne z k) once =
      let price = sent_price net (parent lists z) k in
      either (RelaysSent lists p) (can_pass_to_one lists net z price) (after_passing_to_one lists p net z price) net (λ e. sent) (λ e. sent)
  at_once_step StopsClearing once =
      either (RelaysSent lists p) (can_clear lists net) (auctioneer_stopped net) net
      (λ e. same_made (auctioneer_stopped net) clears (λ x n some. some)) (λ e. sent)
  at_once_step (TellsOne z) once =
      either (RelaysSent lists p) (can_tell_one lists net z) (after_telling_one p net z) net (λ e. sent) (λ e. sent)

-- so each can go on: a relay that made no bid has room
pub sent_can_go_on : (lists : Lists) (p : Pricing) (net : Network) → RelaysSent lists p net → CanGoOn lists p net
sent_can_go_on lists p net sent c conc = elim (cases_eq (net.last_number c) 0) [
  | inl none ↦ inr (inr (omega (arith, none)))
  | inr ne ↦ inl (sent c conc (omega (arith, ne)))
]

module _ (lists : Lists) (law : Lawful lists) (one : phases lists ≡ 1) (p : Pricing) (by : GoesByNodes lists p) where
  sent_after : (events : List Event) (net : Network) (s : State) → NetworkAgrees lists p net s → RelaysSent lists p net →
      All (RelaySendsAtOnce lists) events →
      (t : State) × NetworkAgrees lists p (network_after lists p net events) t × RelaysSent lists p (network_after lists p net events)
  sent_after [] net s agrees sent all = (s, agrees, sent)
  sent_after (e ∷ es) net s agrees sent all =
      let goes : GoesOn lists p s (network_step lists p net e) = event_goes_on lists law one p by net s agrees e in
      sent_after es (network_step lists p net e) (after_from lists s goes.moves) goes.agrees
      (at_once_step lists p net sent e (all 0 e (omega arith))) (λ k o lt. all (suc k) o (omega (arith, lt)))

  module _ (events : List Event) (once : All (RelaySendsAtOnce lists) events) where
    abbrev reached : Network
    reached = network_after lists p (start_network p) events

    at_end : (t : State) × NetworkAgrees lists p (network_after lists p (start_network p) events) t
        × RelaysSent lists p (network_after lists p (start_network p) events)
    at_end = sent_after events (start_network p) start (starting lists law p by) (λ c conc some. absurd (omega (arith, some))) once

    -- after a run in which relays send at once, each relay can go on
    pub run_can_go_on : CanGoOn lists p (network_after lists p (start_network p) events)
    run_can_go_on = sent_can_go_on lists p reached at_end.2

    module _ (rounds : List (List Event)) (are : AreFullRounds lists p (network_after lists p (start_network p) events) rounds)
        (many : full_round_bound lists < Rattle.std.proofs.Common.length rounds) where
      -- after so many full rounds the network is settled
      pub run_settles_at_once : IsSettledNetwork lists (after_rounds lists p (network_after lists p (start_network p) events) rounds)
      run_settles_at_once = full_settles lists law one p by reached at_end.0 rounds at_end.1 run_can_go_on are many

      -- and each member holds the price over all bids
      pub run_held_at_once : (d : ℕ) → IsLeaf lists d → is_member lists d ((network_after lists p (start_network p) events).counts d) ≡ true →
          (after_rounds lists p (network_after lists p (start_network p) events) rounds).taken d
          ≡ price_message ((network_after lists p (start_network p) events).counts d)
          ((after_rounds lists p (network_after lists p (start_network p) events) rounds).last_number 0)
          (p.local (network_after lists p (start_network p) events).counts d)
      run_held_at_once d leaf member = full_held lists law one p by reached at_end.0 rounds at_end.1 run_can_go_on are many d leaf member

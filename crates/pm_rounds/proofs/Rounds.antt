-- A round in which nothing rises leaves a settled network. Since what is counted has a bound, so does the number of the others.
use Rattle.std.proofs.Common.{◌≡◌, ◌∙◌, sym, ap, ℕ, suc, ◌+◌, ◌<◌, ◌≤◌, true, false, ◌⊎◌, inl}
use Rattle.std.proofs.Common.{inr, List, [], ◌∷◌, length, refl, arith}
use Rattle.std.proofs.lemmas.Bool.{cases_eq, cases_lt}
use Rattle.std.specs.List.{All, Contains}
use Rattle.pm_market.specs.Lists.{Lists, nodes, phases, is_member, IsNode, IsLeaf, IsInner, Lawful}
use Rattle.pm_market.specs.State.{State, start}
use Rattle.pm_market.specs.Moves.{after_from}
use Rattle.pm_market.proofs.Tree.{leaf_zero}
use Rattle.pm_laws.specs.Gone.{is_gone}
use Rattle.pm_net.specs.Pricing.{Pricing, GoesByNodes}
use Rattle.pm_net.specs.Messages.{price_message}
use Rattle.pm_net.specs.Network.{Network, start_network}
use Rattle.pm_net.specs.Running.{is_caught_up, has_news, can_clear}
use Rattle.pm_net.specs.Restarts.{can_rebuild}
use Rattle.pm_net.specs.Events.{Event, network_step, network_after, TakesBid, Sends, Clears, TakesPrice, Rebuilds}
use Rattle.pm_net.specs.Agrees.{NetworkAgrees, GoesOn}
use Rattle.pm_net.specs.Settled.{made_number, IsSettledNetwork}
use Rattle.pm_rounds.specs.Sent.{IsNoStop, AllSent}
use Rattle.pm_rounds.specs.Rounds.{IsCarried, IsRound, AreRounds, after_rounds}
use Rattle.pm_rounds.specs.Bounds.{round_bound}
use Rattle.pm_net.proofs.News.{no_news, newest_record}
use Rattle.pm_net.proofs.Resting.{caught}
use Rattle.pm_net.proofs.Settled.{none_at_root, all_held}
use Rattle.pm_net.proofs.Runs.{event_goes_on}
use Rattle.pm_rounds.proofs.Sent.{sent_start, sent_step, carried_on}
use Rattle.pm_net.proofs.Starting.{starting}
use Rattle.pm_rounds.proofs.Counting.{count_of, count_small, moves}
use Rattle.pm_rounds.proofs.Tried.{Tried, tried, bid_old, cannot_send, cannot_clear, cannot_rebuild, price_old}
use Rattle.pm_rounds.proofs.Quiet.{IsQuiet, heard_gone, quiet_step}

-- no device offers in a round
step_counts : (lists : Lists) (p : Pricing) (net : Network) (e : Event) → IsCarried lists e → (network_step lists p net e).counts ≡ net.counts
step_counts lists p net e carried = elim (moves lists p net e carried) [
  | inl w ↦ ap (λ (n : Network). n.counts) w.is
  | inr w ↦ w.2
]

-- no device bids in a round
pub round_counts : (lists : Lists) (p : Pricing) (events : List Event) (net : Network) → All (IsCarried lists) events →
    (network_after lists p net events).counts ≡ net.counts
round_counts lists p [] net all = refl
round_counts lists p (e ∷ es) net all =
    round_counts lists p es (network_step lists p net e) (λ k o lt. all (suc k) o (omega (arith, lt)))
    ∙ step_counts lists p net e (all 0 e (omega arith))

-- nor in more rounds
pub rounds_counts : (lists : Lists) (p : Pricing) (rounds : List (List Event)) (net : Network) → AreRounds lists p net rounds →
    (after_rounds lists p net rounds).counts ≡ net.counts
rounds_counts lists p [] net are = refl
rounds_counts lists p (round ∷ rounds) net are =
    rounds_counts lists p rounds (network_after lists p net round) are.1 ∙ round_counts lists p round net are.0.carried

module _ (lists : Lists) (law : Lawful lists) (one : phases lists ≡ 1) (p : Pricing) (by : GoesByNodes lists p) where
  -- a round in which nothing rises begins in a settled network
  pub quiet_round : (net : Network) (s : State) → NetworkAgrees lists p net s → AllSent lists p net → (events : List Event) →
      IsRound lists p net events → count_of lists (network_after lists p net events) ≤ count_of lists net → IsQuiet lists net
  quiet_round net s agrees sent events round le =
      let tries : (e : Event) → Contains events e → Tried lists p net e =
      λ e c. tried lists law one p by events net s agrees round.carried le e c.0 c.1 c.2 in
      let bids : (x : ℕ) → IsNode lists x → made_number lists net x ≤ (net.heard x).number =
      λ x node. elim (cases_eq (made_number lists net x) 0) [
        | inl none ↦ omega (arith, none)
        | inr ne ↦
            let at = sent.bids x node (omega (arith, ne)) in
            let given = round.bids x at.0 node at.1 in
            omega (arith, at.2, given.newer, bid_old lists law one p by net x given.place node given.inside (tries (TakesBid x given.place) given.given))
      ] in
      let caught_up : (y : ℕ) → is_caught_up lists net y ≡ true = caught lists law p net s agrees bids in
      let rebuilt : (y : ℕ) → IsInner lists y → y ≤ nodes lists → can_rebuild lists net y ≡ false =
      λ y inner within. cannot_rebuild lists law one p by net y (tries (Rebuilds y) (round.looks y inner within)) in
      let auctioneer : can_clear lists net ≡ false = cannot_clear lists law one p by net (tries Clears round.clears) in
      let none : has_news lists net 0 ≡ false = none_at_root lists net auctioneer (caught_up 0) in
      record {
        settled = record {
          bids = bids;
          prices = λ x k node lt.
              let given = round.prices x k node lt in
              omega (
                arith,
                given.newer,
                price_old lists law one p by net x given.place node (caught_up x) (λ inner. rebuilt x inner node.1) given.inside
                    (tries (TakesPrice x given.place) given.given),
              );
          told = λ x node up stays. sent.prices x node up (
              ap (is_gone lists x) (newest_record lists law p net s agrees 0 x node up ∙ sym (no_news lists law p net s agrees 0 none x node up))
              ∙ sym (heard_gone lists law one p by net s agrees x node) ∙ stays);
          relays = λ c conc. cannot_send lists law one p by net c (tries (Sends c) (round.sends c conc));
          auctioneer = auctioneer;
        };
        rebuilt = rebuilt;
      }

  -- what holds of a network after a round
  pub after_round : (events : List Event) (net : Network) (s : State) → NetworkAgrees lists p net s → AllSent lists p net →
      All (IsCarried lists) events →
      (t : State) × NetworkAgrees lists p (network_after lists p net events) t × AllSent lists p (network_after lists p net events)
      × (IsQuiet lists net → IsQuiet lists (network_after lists p net events))
  after_round [] net s agrees sent all = (s, agrees, sent, λ quiet. quiet)
  after_round (e ∷ es) net s agrees sent all =
      let carried : IsCarried lists e = all 0 e (omega arith) in
      let goes : GoesOn lists p s (network_step lists p net e) = event_goes_on lists law one p by net s agrees e in
      let rest = after_round es (network_step lists p net e) (after_from lists s goes.moves) goes.agrees
      (sent_step lists p net sent law s agrees e (carried_on lists e carried)) (λ k o lt. all (suc k) o (omega (arith, lt))) in
      (rest.0, rest.1, rest.2, λ quiet. rest.3 (quiet_step lists law one p by net s agrees quiet e carried))

  -- after some rounds a network is quiet, or each of them raised what is counted
  rounds_on : (rounds : List (List Event)) (net : Network) (s : State) → NetworkAgrees lists p net s → AllSent lists p net →
      AreRounds lists p net rounds → (t : State) × NetworkAgrees lists p (after_rounds lists p net rounds) t
      × (IsQuiet lists net → IsQuiet lists (after_rounds lists p net rounds))
      × (IsQuiet lists (after_rounds lists p net rounds) ⊎ (count_of lists net + length rounds ≤ count_of lists (after_rounds lists p net rounds)))
  rounds_on [] net s agrees sent are = (s, agrees, λ quiet. quiet, inr (omega arith))
  rounds_on (round ∷ rounds) net s agrees sent are =
      let next : Network = network_after lists p net round in
      let after = after_round round net s agrees sent are.0.carried in
      let rest = rounds_on rounds next after.0 after.1 after.2 are.1 in
      let stays : IsQuiet lists net → IsQuiet lists (after_rounds lists p next rounds) = λ quiet. rest.2 (after.3 quiet) in (
        rest.0,
        rest.1,
        stays,
        elim (cases_lt (count_of lists net) (count_of lists next)) [
          | inl more ↦ elim rest.3 [
            | inl quiet ↦ inl quiet
            | inr up ↦ inr (omega (arith, up, more))
          ]
          | inr none ↦ inl (stays (quiet_round net s agrees sent round are.0 none))
        ],
      )

  -- so many rounds settle it
  pub rounds_quiet : (net : Network) (s : State) (rounds : List (List Event)) → NetworkAgrees lists p net s → AllSent lists p net →
      AreRounds lists p net rounds → round_bound lists < length rounds → IsQuiet lists (after_rounds lists p net rounds)
  rounds_quiet net s rounds agrees sent are many =
      let on = rounds_on rounds net s agrees sent are in
      elim on.3 [
        | inl quiet ↦ quiet
        | inr up ↦ absurd (omega (arith, up, many, count_small lists law p (after_rounds lists p net rounds) on.0 on.1))
      ]

  -- its members hold the price over all bids
  pub held_so : (net final : Network) (t : State) → NetworkAgrees lists p final t → IsSettledNetwork lists final → final.counts ≡ net.counts →
      (d : ℕ) → IsLeaf lists d → is_member lists d (net.counts d) ≡ true →
      final.taken d ≡ price_message (net.counts d) (final.last_number 0) (p.local net.counts d)
  held_so net final t agrees settled same d leaf member =
      all_held lists law p by final t agrees settled d leaf (ap (λ (f : ℕ → ℕ). is_member lists d (f d)) same ∙ member)
      ∙ ap (λ (j : ℕ). price_message (final.counts d) j (p.local final.counts d)) (sym (agrees.last_number 0 (leaf_zero lists)))
      ∙ ap (λ (f : ℕ → ℕ). price_message (f d) (final.last_number 0) (p.local f d)) same

  -- so its members hold the price over all bids after so many rounds
  pub rounds_held : (net : Network) (s : State) (rounds : List (List Event)) → NetworkAgrees lists p net s → AllSent lists p net →
      AreRounds lists p net rounds → round_bound lists < length rounds → (d : ℕ) → IsLeaf lists d → is_member lists d (net.counts d) ≡ true →
      (after_rounds lists p net rounds).taken d
      ≡ price_message (net.counts d) ((after_rounds lists p net rounds).last_number 0) (p.local net.counts d)
  rounds_held net s rounds agrees sent are many d leaf member =
      let on = rounds_on rounds net s agrees sent are in
      let quiet : IsQuiet lists (after_rounds lists p net rounds) = rounds_quiet net s rounds agrees sent are many in
      held_so net (after_rounds lists p net rounds) on.0 on.1 quiet.settled (rounds_counts lists p rounds net are) d leaf member

  -- a run in which no node stops between storing and sending has all sent
  pub run_sent : (events : List Event) (net : Network) (s : State) → NetworkAgrees lists p net s → AllSent lists p net → All IsNoStop events →
      (t : State) × NetworkAgrees lists p (network_after lists p net events) t × AllSent lists p (network_after lists p net events)
  run_sent [] net s agrees sent all = (s, agrees, sent)
  run_sent (e ∷ es) net s agrees sent all =
      let goes : GoesOn lists p s (network_step lists p net e) = event_goes_on lists law one p by net s agrees e in
      run_sent es (network_step lists p net e) (after_from lists s goes.moves) goes.agrees
      (sent_step lists p net sent law s agrees e (all 0 e (omega arith))) (λ k o lt. all (suc k) o (omega (arith, lt)))

  -- so after a run in which no node stops, so many rounds settle it
  pub run_settles : (events : List Event) (rounds : List (List Event)) → All IsNoStop events →
      AreRounds lists p (network_after lists p (start_network p) events) rounds → round_bound lists < length rounds →
      IsSettledNetwork lists (after_rounds lists p (network_after lists p (start_network p) events) rounds)
  run_settles events rounds all are many =
      let at = run_sent events (start_network p) start (starting lists law p by) (sent_start lists p) all in
      (rounds_quiet (network_after lists p (start_network p) events) at.0 rounds at.1 at.2 are many).settled

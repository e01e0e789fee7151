-- In how many rounds a network settles if no window is full.
use Rattle.std.proofs.Common.{◌≡◌, ◌∙◌, sym, ap, subst, ℕ, zero, suc, ◌+◌, ◌*◌, ◌≤◌, not, ◌&&◌, inl}
use Rattle.std.proofs.Common.{inr, List, [], ◌∷◌, length, arith}
use Rattle.std.proofs.lemmas.Bool.{cases_eq, cases_Bool, and_parts}
use Rattle.std.proofs.lemmas.Bool.{both_ways}
use Rattle.pm_market.specs.Lists.{Lists, phases, parent, is_leaf, path_depth, IsConcentrator, Lawful}
use Rattle.pm_market.specs.State.{State}
use Rattle.pm_market.specs.Legality.{is_node}
use Rattle.pm_market.proofs.Tree.{leaf_zero}
use Rattle.pm_laws.specs.Gone.{is_gone}
use Rattle.pm_laws.proofs.Depth.{concentrators_zero}
use Rattle.pm_net.specs.Pricing.{Pricing, GoesByNodes}
use Rattle.pm_net.specs.Network.{Network}
use Rattle.pm_net.specs.Running.{is_caught_up, has_news, can_send, can_clear}
use Rattle.pm_net.specs.Events.{Event, network_after}
use Rattle.pm_net.specs.Agrees.{NetworkAgrees}
use Rattle.pm_net.specs.Settled.{IsSettledNetwork}
use Rattle.pm_rounds.specs.Rounds.{AreRounds, after_rounds}
use Rattle.pm_rounds.specs.Sent.{AllSent}
use Rattle.pm_rounds.specs.Bounds.{RoundsHaveRoom, rounds_of_depth}
use Rattle.pm_rounds.proofs.Rounds.{after_round}
use Rattle.pm_rounds.proofs.Rising.{Stage, Level}
use Rattle.pm_rounds.proofs.Rising.{first_round, send_round, take_round}
use Rattle.pm_rounds.proofs.Quiet.{heard_gone}
use Rattle.pm_rounds.proofs.Falling as falling
use Rattle.pm_rounds.proofs.Falling.{no_news, all_heard, up_after, fallen, fall_round, look_round}

module _ (lists : Lists) (law : Lawful lists) (one : phases lists ≡ 1) (p : Pricing) (by : GoesByNodes lists p) (depth : ℕ)
    (deep : (c : ℕ) → IsConcentrator lists c → path_depth lists c ≤ depth) where
  abbrev AllUp : Network → Type 0
  AllUp net = falling.AllUp lists law one p by depth deep net

  abbrev Falls : ℕ → Network → Type 0
  Falls m net = falling.Falls lists law one p by depth deep m net

  settled_now : (net : Network) (s : State) → NetworkAgrees lists p net s → AllSent lists p net → Falls (depth + 1) net → IsSettledNetwork lists net
  unfolding can_send can_clear
  settled_now net s agrees sent falls = record {
    bids = all_heard lists law one p by depth deep net falls.up;
    prices = λ x k node inside. falls.down x node (elim (cases_eq (parent lists x) 0) [
      | inl root ↦ omega (arith, ap (path_depth lists) root, concentrators_zero lists)
      | inr ne ↦ omega (
        arith,
        deep (parent lists x) (omega (arith, ne), omega (arith, law.earlier x node, node.1), law.inner x node),
      )
    ]) k inside;
    told = λ x node up stays. sent.prices x node up (
        ap (is_gone lists x) (sym (falls.up.quiet 0 (leaf_zero lists, omega arith) x node up))
        ∙ sym (heard_gone lists law one p by net s agrees x node) ∙ stays);
    relays = λ c conc. elim (cases_Bool (can_send lists net c)) [
      | inr e ↦ e
      | inl e ↦ absurd (both_ways (has_news lists net c) (no_news lists law one p by depth deep net falls.up c conc.2 conc.1)
          (and_parts (is_node lists c && not (is_leaf lists c) && is_caught_up lists net c) (has_news lists net c)
          (and_parts (is_node lists c && not (is_leaf lists c) && is_caught_up lists net c && has_news lists net c) _ e).0).1)
    ];
    auctioneer = elim (cases_Bool (can_clear lists net)) [
      | inr e ↦ e
      | inl e ↦ absurd (both_ways (has_news lists net 0) (no_news lists law one p by depth deep net falls.up 0 (leaf_zero lists) (omega arith))
          (and_parts (is_caught_up lists net 0) (has_news lists net 0) e).1)
    ];
  }

  settles_on : (rounds : List (List Event)) (net : Network) (s : State) → NetworkAgrees lists p net s → AllSent lists p net → Falls (depth + 1) net →
      AreRounds lists p net rounds → IsSettledNetwork lists (after_rounds lists p net rounds)
  settles_on [] net s agrees sent falls are = settled_now net s agrees sent falls
  settles_on (round ∷ rounds) net s agrees sent falls are =
      let next = after_round lists law one p by round net s agrees sent are.0.carried in
      settles_on rounds (network_after lists p net round) next.0 next.1 next.2
      (fallen lists law one p by depth deep (depth + 1) round net s agrees sent falls are.0.carried).falls are.1

  falls_on : (left m : ℕ) → left + m ≡ depth + 1 → (rounds : List (List Event)) (net : Network) (s : State) → NetworkAgrees lists p net s →
      AllSent lists p net → Falls m net → AreRounds lists p net rounds → left ≤ length rounds →
      IsSettledNetwork lists (after_rounds lists p net rounds)
  falls_on zero m sum rounds net s agrees sent falls are many =
      settles_on rounds net s agrees sent (subst (λ (n : ℕ). Falls n net) (omega (arith, sum)) falls) are
  falls_on (suc left) m sum [] net s agrees sent falls are many = absurd (omega (arith, many))
  falls_on (suc left) m sum (round ∷ rounds) net s agrees sent falls are many =
      let next = after_round lists law one p by round net s agrees sent are.0.carried in
      falls_on left (m + 1) (omega (arith, sum)) rounds (network_after lists p net round) next.0 next.1 next.2
      (fall_round lists law one p by depth deep m round net s agrees sent falls are.0) are.1 (omega (arith, many))

  clears_on : (rounds : List (List Event)) (net : Network) (s : State) → NetworkAgrees lists p net s → AllSent lists p net →
      Stage lists law one p by depth deep depth (Level lists law one p by depth deep depth) net → AreRounds lists p net rounds →
      RoundsHaveRoom lists p net rounds → depth + 2 ≤ length rounds → IsSettledNetwork lists (after_rounds lists p net rounds)
  clears_on [] net s agrees sent stage are room many = absurd (omega (arith, many))
  clears_on (round ∷ rounds) net s agrees sent stage are room many =
      let next = after_round lists law one p by round net s agrees sent are.0.carried in
      falls_on (depth + 1) 0 (omega arith) rounds (network_after lists p net round) next.0 next.1 next.2
      (look_round lists law one p by depth deep round net s agrees stage are.0 room.0) are.1 (omega (arith, many))

  rises_up : (left b : ℕ) → left + b ≡ depth → (rounds : List (List Event)) (net : Network) (s : State) → NetworkAgrees lists p net s →
      AllSent lists p net → Stage lists law one p by depth deep b (Level lists law one p by depth deep b) net → AreRounds lists p net rounds →
      RoundsHaveRoom lists p net rounds → 2 * left + depth + 2 ≤ length rounds → IsSettledNetwork lists (after_rounds lists p net rounds)
  rises_up zero b sum rounds net s agrees sent stage are room many =
      clears_on rounds net s agrees sent
      (subst (λ (n : ℕ). Stage lists law one p by depth deep n (Level lists law one p by depth deep n) net) (omega (arith, sum)) stage) are room
      (omega (arith, many))
  rises_up (suc left) b sum [] net s agrees sent stage are room many = absurd (omega (arith, many))
  rises_up (suc left) b sum (round ∷ []) net s agrees sent stage are room many = absurd (omega (arith, many))
  rises_up (suc left) b sum (round ∷ second ∷ rounds) net s agrees sent stage are room many =
      let then : Network = network_after lists p net round in
      let next = after_round lists law one p by round net s agrees sent are.0.carried in
      let later = after_round lists law one p by second then next.0 next.1 next.2 are.1.0.carried in
      let first = send_round lists law one p by depth deep b round net s agrees stage are.0 room.0 in
      rises_up left (b + 1) (omega (arith, sum)) rounds (network_after lists p then second) later.0 later.1 later.2
      (take_round lists law one p by depth deep b second then next.0 next.1 next.2 first are.1.0) are.1.1 room.1.1 (omega (arith, many))

  -- so many rounds settle a network while no window is full
  pub settles_in_time : (rounds : List (List Event)) (net : Network) (s : State) → NetworkAgrees lists p net s → AllSent lists p net →
      AreRounds lists p net rounds → RoundsHaveRoom lists p net rounds → rounds_of_depth depth ≤ length rounds →
      IsSettledNetwork lists (after_rounds lists p net rounds)
  settles_in_time [] net s agrees sent are room many = absurd (omega (arith, many))
  settles_in_time (round ∷ rounds) net s agrees sent are room many =
      let next = after_round lists law one p by round net s agrees sent are.0.carried in
      rises_up depth 0 (omega arith) rounds (network_after lists p net round) next.0 next.1 next.2
      (first_round lists law one p by depth deep round net sent are.0) are.1 room.1 (omega (arith, many))

-- In how many rounds the newest clearing is over all bids, if no window is full.
use Rattle.std.proofs.Common.{◌≡◌, ◌∙◌, sym, ap, subst, ℕ, zero, suc, ◌+◌, ◌*◌, ◌≤◌, inl}
use Rattle.std.proofs.Common.{inr, List, [], ◌∷◌, length, refl, arith}
use Rattle.std.proofs.lemmas.Bool.{cases_eq}
use Rattle.pm_market.specs.Lists.{Lists, nodes, phases, parent, path_depth, IsNode, IsInner, IsConcentrator, Lawful}
use Rattle.pm_market.specs.State.{State}
use Rattle.pm_net.specs.Pricing.{Pricing, GoesByNodes}
use Rattle.pm_net.specs.Network.{Network}
use Rattle.pm_net.specs.Events.{Event, network_after}
use Rattle.pm_net.specs.Agrees.{NetworkAgrees}
use Rattle.pm_rounds.specs.Rounds.{AreRounds, after_rounds}
use Rattle.pm_rounds.specs.Sent.{AllSent}
use Rattle.pm_rounds.specs.Bounds.{RoundsHaveRoom}
use Rattle.pm_rounds.proofs.Rounds.{after_round}
use Rattle.pm_base.specs.Cuts.{Cut}
use Rattle.pm_market.specs.Lists.{IsLeaf}
use Rattle.pm_market.specs.State.{newest_number_of, SameOn, cut_at, part, number, clearings, cleared_cut}
use Rattle.pm_market.proofs.Tree.{leaf_node, leaf_of_parent, leaf_of_itself}
use Rattle.pm_market.proofs.Cuts.{newest_leaf, newest_inner, part_leaf, part_inner}
use Rattle.pm_laws.proofs.Numbers.{published_is_part}
use Rattle.pm_net.proofs.News.{newest_record}
use Rattle.pm_net.proofs.Resting.{own_is}
use Rattle.pm_rounds.proofs.Rounds.{rounds_counts}
use Rattle.pm_rounds.proofs.Rising.{Stage, Level}
use Rattle.pm_rounds.proofs.Rising.{first_round, send_round, take_round, clear_round}
use Rattle.pm_rounds.proofs.Falling as falling
use Rattle.pm_rounds.proofs.Falling.{no_news, all_heard, up_after, fallen, fall_round, look_round}

module _ (lists : Lists) (law : Lawful lists) (one : phases lists ≡ 1) (p : Pricing) (by : GoesByNodes lists p) (depth : ℕ)
    (deep : (c : ℕ) → IsConcentrator lists c → path_depth lists c ≤ depth) where
  abbrev AllUp : Network → Type 0
  AllUp net = falling.AllUp lists law one p by depth deep net

  module _ (net : Network) (s : State) (agrees : NetworkAgrees lists p net s) (up : AllUp net) where
    -- each parent learnt the newest number of its child
    learnt_newest : (x : ℕ) → IsNode lists x → s.learnt x ≡ newest_number_of lists s x
    learnt_newest x node =
        let inner : IsInner lists (parent lists x) = law.inner x node in
        let within : parent lists x ≤ nodes lists = omega (arith, law.earlier x node, node.1) in
        omega (
          arith,
          up.quiet (parent lists x) (inner, within) x node refl,
          newest_record lists law p net s agrees (parent lists x) x node refl,
          own_is lists p net s agrees x,
          all_heard lists law one p by depth deep net up x node,
          agrees.sound.learnt_within x node,
        )

    -- the newest clearing is at each node the part of its newest number
    is_newest : (fuel x : ℕ) → x ≤ fuel → IsNode lists x → SameOn lists x (cleared_cut s (clearings s)) (part lists s x (newest_number_of lists s x))
    is_newest zero x le node d leaf = absurd (omega (arith, le, node.0))
    is_newest (suc fuel) x le node d leaf =
        let y : ℕ = parent lists x in
        let top : ℕ = length (s.published y) in
        let its : SameOn lists x (cut_at (s.published y) top) (part lists s x (number lists s x (cut_at (s.published y) top))) =
        (published_is_part lists law s agrees.sound x top node (omega arith)).0 in
        let number_is : number lists s x (cut_at (s.published y) top) ≡ newest_number_of lists s x =
        sym (agrees.learnt x node) ∙ learnt_newest x node in
        let here : cut_at (s.published y) top d ≡ part lists s x (newest_number_of lists s x) d =
        its d leaf ∙ ap (λ (n : ℕ). part lists s x n d) number_is in
        elim (cases_eq y 0) [
          | inl root ↦ sym (ap (λ (z : ℕ). cut_at (s.published z) (length (s.published z)) d) root) ∙ here
          | inr ne ↦
              let y_node : IsNode lists y = (omega (arith, ne), omega (arith, law.earlier x node, node.1)) in
              is_newest fuel y (omega (arith, le, law.earlier x node)) y_node d (leaf_of_parent lists law x d leaf)
              ∙ ap (λ (n : ℕ). part lists s y n d) (newest_inner lists s.counts s.published y (law.inner x node))
              ∙ ap (λ (cut : Cut). cut d) (part_inner lists s.published y top (law.inner x node)) ∙ here
        ]

    -- the newest clearing is over all bids
    pub all_cleared : (d : ℕ) → IsLeaf lists d → cleared_cut s (clearings s) d ≡ net.counts d
    all_cleared d leaf =
        is_newest d d (omega arith) (leaf_node lists law d leaf) d (leaf_of_itself lists law d leaf)
        ∙ part_leaf lists s.published d (newest_number_of lists s d) d leaf
        ∙ newest_leaf lists s.counts s.published d leaf ∙ sym (agrees.counts d leaf)

  up_on : (rounds : List (List Event)) (net : Network) (s : State) → NetworkAgrees lists p net s → AllSent lists p net → AllUp net →
      AreRounds lists p net rounds → AllUp (after_rounds lists p net rounds)
  up_on [] net s agrees sent up are = up
  up_on (round ∷ rounds) net s agrees sent up are =
      let next = after_round lists law one p by round net s agrees sent are.0.carried in
      up_on rounds (network_after lists p net round) next.0 next.1 next.2 (up_after lists law one p by depth deep round net s agrees up are.0.carried) are.1

  all_up : (left b : ℕ) → left + b ≡ depth → (rounds : List (List Event)) (net : Network) (s : State) → NetworkAgrees lists p net s →
      AllSent lists p net → Stage lists law one p by depth deep b (Level lists law one p by depth deep b) net → AreRounds lists p net rounds →
      RoundsHaveRoom lists p net rounds → 2 * left + 1 ≤ length rounds → AllUp (after_rounds lists p net rounds)
  all_up left b sum [] net s agrees sent stage are room many = absurd (omega (arith, many))
  all_up zero b sum (round ∷ rounds) net s agrees sent stage are room many =
      let then : Network = network_after lists p net round in
      let next = after_round lists law one p by round net s agrees sent are.0.carried in
      up_on rounds then next.0 next.1 next.2 (clear_round lists law one p by depth deep round net s agrees
      (subst (λ (n : ℕ). Stage lists law one p by depth deep n (Level lists law one p by depth deep n) net) (omega (arith, sum)) stage) are.0 room.0) are.1
  all_up (suc left) b sum (round ∷ []) net s agrees sent stage are room many = absurd (omega (arith, many))
  all_up (suc left) b sum (round ∷ second ∷ rounds) net s agrees sent stage are room many =
      let then : Network = network_after lists p net round in
      let next = after_round lists law one p by round net s agrees sent are.0.carried in
      let later = after_round lists law one p by second then next.0 next.1 next.2 are.1.0.carried in
      let first = send_round lists law one p by depth deep b round net s agrees stage are.0 room.0 in
      all_up left (b + 1) (omega (arith, sum)) rounds (network_after lists p then second) later.0 later.1 later.2
      (take_round lists law one p by depth deep b second then next.0 next.1 next.2 first are.1.0) are.1.1 room.1.1 (omega (arith, many))

  -- after the way up the newest clearing is over all offers
  pub cleared_in_time : (rounds : List (List Event)) (net : Network) (s t : State) → NetworkAgrees lists p net s → AllSent lists p net →
      AreRounds lists p net rounds → RoundsHaveRoom lists p net rounds → 2 * depth + 2 ≤ length rounds →
      NetworkAgrees lists p (after_rounds lists p net rounds) t → (d : ℕ) → IsLeaf lists d → cleared_cut t (clearings t) d ≡ net.counts d
  cleared_in_time [] net s t agrees sent are room many after d leaf = absurd (omega (arith, many))
  cleared_in_time (round ∷ rounds) net s t agrees sent are room many after d leaf =
      let next = after_round lists law one p by round net s agrees sent are.0.carried in
      all_cleared (after_rounds lists p (network_after lists p net round) rounds) t after
      (all_up depth 0 (omega arith) rounds (network_after lists p net round) next.0 next.1 next.2
      (first_round lists law one p by depth deep round net sent are.0) are.1 room.1 (omega (arith, many))) d leaf
      ∙ ap (λ (f : ℕ → ℕ). f d) (rounds_counts lists p (round ∷ rounds) net are)

-- A relay that is caught up, and has its newest record or cannot have it again, takes each newer price.
use Rattle.std.proofs.Common.{◌≡◌, ◌∙◌, ap, ℕ, ◌<◌, ◌≤◌, true, false, cond, not, eqb, ltb, leb, ◌&&◌, inl, inr, length, arith}
use Rattle.std.proofs.lemmas.Bool.{cases_Bool, and_parts, and_from, cond-true, cond-false, lt-ltb, le-leb, leb-false, eqb-true, not-true, not_from_false}
use Rattle.std.proofs.lemmas.Bool.{both_ways}
use Rattle.pm_market.specs.Lists.{Lists, is_leaf, IsNode, IsConcentrator, Lawful}
use Rattle.pm_market.specs.State.{State, number, cleared_cut}
use Rattle.pm_market.proofs.Cuts.{updated_same, newest_inner}
use Rattle.pm_market.proofs.Legality.{is_node_at}
use Rattle.pm_laws.proofs.Numbers.{addressed_number, cleared_is_part, cleared_number_rises}
use Rattle.pm_laws.proofs.Published.{due_within}
use Rattle.pm_laws.proofs.MoveLaws.{due_parts}
use Rattle.pm_net.specs.Pricing.{Pricing}
use Rattle.pm_net.specs.Messages.{PriceMessage}
use Rattle.pm_net.specs.Network.{Network, sent_price}
use Rattle.pm_net.specs.Running.{is_new_price, names_a_bid, is_caught_up, has_news, is_overtaken, waits, after_taking_price}
use Rattle.pm_net.specs.Restarts.{can_rebuild}
use Rattle.pm_net.specs.Running.{after_answer, after_passing, after_relay_price}
use Rattle.pm_net.specs.Events.{network_step, TakesPrice}
use Rattle.pm_net.specs.Agrees.{IsItsPrice, NetworkAgrees}
use Rattle.pm_net.proofs.News.{level}

module _ (lists : Lists) (law : Lawful lists) (p : Pricing) (net : Network) (s : State) (agrees : NetworkAgrees lists p net s) (c k : ℕ)
    (conc : IsConcentrator lists c)
    (inside : k < length (net.prices_sent c)) (newer : (net.taken c).index < (sent_price net c k).index) where
  node : IsNode lists c
  node = (conc.0, conc.1)

  abbrev price : PriceMessage
  price = sent_price net c k

  its : IsItsPrice lists p s c price
  its = agrees.prices_sent c k node inside

  within : (1 ≤ price.index) × (price.index ≤ Rattle.pm_market.specs.State.clearings s)
  within = due_within lists s agrees.sound c price.index its.0

  number_is : price.number ≡ number lists s c (cleared_cut s price.index)
  number_is = ap (λ (q : PriceMessage). q.number) its.1

  -- it names a bid that the relay sent, and none before the one answered
  names : names_a_bid net c price.number ≡ true
  unfolding names_a_bid
  names =
      let one : 1 ≤ price.number =
      omega (arith, number_is, (addressed_number lists law s agrees.sound c price.index conc within.1).0 (due_parts lists s c price.index its.0).1) in
      let to : price.number ≤ net.last_number c = omega (
        arith,
        number_is,
        (cleared_is_part lists law s agrees.sound c price.index node within.1).1,
        agrees.sound.learnt_within c node,
        newest_inner lists s.counts s.published c conc.2,
        agrees.last_number c conc.2,
      ) in
      let from : net.answered c ≤ price.number = elim (agrees.taken c node) [
        | inl none ↦ omega (arith, agrees.answered c conc, ap (λ (q : PriceMessage). q.number) none)
        | inr held ↦ omega (
          arith,
          agrees.answered c conc,
          ap (λ (q : PriceMessage). q.number) held.1,
          number_is,
          cleared_number_rises lists s law agrees.sound c (net.taken c).index price.index node (omega (arith, newer)) within.1,
        )
      ] in
      and_from _ _ (and_from _ _ (le-leb 1 price.number one) (le-leb (net.answered c) price.number from)) (le-leb price.number (net.last_number c) to)

  newer_is : is_new_price lists net c price ≡ true
  unfolding is_new_price
  newer_is = and_from _ _ (is_node_at lists c node) (lt-ltb (net.taken c).index price.index newer)

  -- it does not wait
  goes : is_caught_up lists net c ≡ true → can_rebuild lists net c ≡ false → leb (net.whole_from c) price.number ≡ false →
      waits lists net c price.number ≡ false
  unfolding waits can_rebuild
  goes caught done lost = elim (cases_Bool (eqb price.number (net.last_number c) && not (is_overtaken lists net c))) [
    | inr e ↦ e
    | inl e ↦
        let parts = and_parts (eqb price.number (net.last_number c)) (not (is_overtaken lists net c)) e in
        let none : has_news lists net c ≡ false = level lists net c caught (not-true (is_overtaken lists net c) parts.1) in
        absurd (both_ways (ltb (net.last_number c) (net.whole_from c) && not (has_news lists net c)) done (and_from _ _ (lt-ltb (net.last_number c)
        (net.whole_from c) (omega (
          arith,
          leb-false (net.whole_from c) price.number lost,
          eqb-true price.number (net.last_number c) parts.0,
        ))) (not_from_false (has_news lists net c) none)))
  ]

  -- a relay that is caught up, and has nothing to rebuild, takes each newer price
  pub takes_newer : is_caught_up lists net c ≡ true → can_rebuild lists net c ≡ false → (network_step lists p net (TakesPrice c k)).taken c ≡ price
  takes_newer caught done =
      let rest : Network = cond (waits lists net c price.number) net (after_answer net c price) in
      ap (λ (n : Network). n.taken c) (
      cond-true (is_new_price lists net c price) (cond (is_leaf lists c) (after_taking_price net c price) (after_relay_price lists p net c price)) net newer_is
      ∙ cond-false (is_leaf lists c) (after_taking_price net c price) (after_relay_price lists p net c price) conc.2
      ∙ cond-true (names_a_bid net c price.number) (cond (leb (net.whole_from c) price.number) (after_passing lists p net c price) rest) net names)
      ∙ elim (cases_Bool (leb (net.whole_from c) price.number)) [
        | inl e ↦ ap (λ (n : Network). n.taken c) (cond-true (leb (net.whole_from c) price.number) (after_passing lists p net c price) rest e)
            ∙ updated_same net.taken c price
        | inr e ↦ ap (λ (n : Network). n.taken c) (cond-false (leb (net.whole_from c) price.number) (after_passing lists p net c price) rest e
            ∙ cond-false (waits lists net c price.number) net (after_answer net c price) (goes caught done e)) ∙ updated_same net.taken c price
      ]

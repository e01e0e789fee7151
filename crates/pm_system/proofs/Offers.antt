-- Each node's offer is a demand that a bid may have, and each local step is one of the steps.
use Rattle.std.proofs.Common.{◌≡◌, ◌∙◌, sym, ap, subst, ℕ, zero, suc, ◌+◌, ◌<◌, ℤ, pos, ◌≤ℤ◌}
use Rattle.std.proofs.Common.{eqb, List, [], ◌∷◌, length, arith, inl, inr}
use Rattle.std.specs.Prelude.{All}
use Rattle.std.proofs.lemmas.Bool.{cases_eq, cases_Bool, cond-true, cond-false, eq-eqb, ne_eqb}
use Rattle.std.proofs.lemmas.Int.{ints}
use Rattle.std.proofs.lemmas.List.Elements.{All-head, All-tail}
use Rattle.std.proofs.lemmas.List.FromFn.{get_or-map-range_with_len, length-map-range_with_len}
use Rattle.pm_base.specs.Cuts.{Cut}
use Rattle.pm_base.specs.Limits.{demand_limit, most_nodes}
use Rattle.pm_base.specs.declared.limits.Limits.{Limits}
use Rattle.pm_bid.specs.Bids.{NeverRises, HaveSteps, sum_of, zeros}
use Rattle.pm_bid.specs.Taken.{announced_in, announced, settled_step}
use Rattle.pm_bid.proofs.Taken.{announced-length, announced-small, announced-falls, settled_inside}
use Rattle.pm_bid.proofs.FoundStep.{first_at_most_is_first}
use Rattle.pm_bid.proofs.Sums.{length-zeros, zeros-at, zeros-within, have_steps_rest, length-sum_of, total_at, sum_of-at}
use Rattle.pm_market.specs.Lists.{Lists, nodes, parent, is_leaf, IsNode, IsConcentrator}
use Rattle.pm_net.specs.Pricing.{Pricing, GoesByNodes}
use Rattle.pm_net_plan.specs.Places.{Numbering, demand_in, demands_of}
use Rattle.pm_system.specs.Given.{IsDemand, IsTreeMarket}
use Rattle.pm_system.proofs.Moving.{parent_relay}

-- ---- sums and limits

total_falls : (bids : List (List ℤ)) (steps step : ℕ) → HaveSteps steps bids → All NeverRises bids → step + 1 < steps →
    total_at bids (step + 1) ≤ℤ total_at bids step
total_falls [] steps step have falls inside = omega (arith, ints)
total_falls (bid ∷ bids) steps step have falls inside =
    let long : length bid ≡ steps = All-head (λ (b : List ℤ). length b ≡ steps) bid bids have in
    omega (
      arith,
      ints,
      All-head NeverRises bid bids falls step (omega (arith, inside, long)),
      total_falls bids steps step (have_steps_rest steps bid bids have) (All-tail NeverRises bid bids falls) inside,
    )

-- a sum of demands that never rise never rises
sum_falls : (steps : ℕ) (bids : List (List ℤ)) → HaveSteps steps bids → All NeverRises bids → NeverRises (sum_of steps bids)
sum_falls steps bids have falls = λ step inside.
    let within : step + 1 < steps = omega (arith, inside, length-sum_of steps bids have) in
    omega (
      arith,
      ints,
      sum_of-at steps bids (step + 1) have within,
      sum_of-at steps bids step have (omega (arith, within)),
      total_falls bids steps step have falls within,
    )

-- what a relay announces of a demand that never rises is a demand that a bid may have
said : (limits : Limits) (steps : ℕ) (sum : List ℤ) → length sum ≡ steps → NeverRises sum → IsDemand steps (announced_in limits sum)
said limits steps sum long falls = record {
  one_each = announced-length limits sum ∙ long;
  small = announced-small limits sum;
  falls = announced-falls limits sum falls;
}

-- zeros are such a demand
pub zeros_demand : (steps : ℕ) → IsDemand steps (zeros steps)
zeros_demand steps = record {
  one_each = length-zeros steps;
  small = zeros-within demand_limit steps;
  falls = λ step inside. omega (arith, ints, zeros-at steps (step + 1), zeros-at steps step);
}

-- ---- offers

module _ (lists : Lists) (p : Pricing) (numbering : Numbering) (market : IsTreeMarket lists p numbering) (cut : Cut) where
  by : GoesByNodes lists p
  by = market.by_nodes

  abbrev offers : ℕ → List ℤ
  offers x = p.offer x cut

  -- where each child of y has such an offer, so has each place
  module _ (y : ℕ) (each : (x : ℕ) → IsNode lists x → parent lists x ≡ y → IsDemand p.steps (p.offer x cut)) where
    abbrev placed : List (List ℤ)
    placed = demands_of p.steps numbering y offers

    in_place : (k : ℕ) → k < most_nodes → IsDemand p.steps (demand_in p.steps numbering y offers k)
    in_place k inside = elim (cases_eq (numbering.child y k) 0) [
      | inl none ↦ subst (IsDemand p.steps) (sym (cond-true (eqb (numbering.child y k) 0) (zeros p.steps) (offers (numbering.child y k))
          (eq-eqb (numbering.child y k) 0 none))) (zeros_demand p.steps)
      | inr ne ↦
          let at = market.places.child_is y k inside ne in
          subst (IsDemand p.steps) (sym (cond-false (eqb (numbering.child y k) 0) (zeros p.steps) (offers (numbering.child y k))
          (ne_eqb (numbering.child y k) 0 ne))) (each (numbering.child y k) at.0 at.1)
    ]

    all_places : All (IsDemand p.steps) (demands_of p.steps numbering y (λ x. p.offer x cut))
    unfolding demands_of
    all_places = λ k o lt.
        let inside : k < most_nodes = omega (arith, lt, length-map-range_with_len (demand_in p.steps numbering y offers) 0 most_nodes) in
        subst (IsDemand p.steps) (sym (get_or-map-range_with_len (demand_in p.steps numbering y offers) 0 most_nodes k k o inside (omega arith)))
        (in_place k inside)

    have : HaveSteps p.steps placed
    have = λ k o lt. (all_places k o lt).one_each

    -- the sum has a demand for each step, and never rises
    pub sum_long : length (p.add y (λ x. p.offer x cut)) ≡ p.steps
    sum_long = ap (λ (l : List ℤ). length l) (market.by_places y offers) ∙ length-sum_of p.steps placed have

    -- the sum of what the children offer never rises with the step
    pub sum_down : NeverRises (p.add y (λ x. p.offer x cut))
    sum_down = subst NeverRises (sym (market.by_places y offers)) (sum_falls p.steps placed have (λ k o lt. (all_places k o lt).falls))

  offer_below : (n x : ℕ) → IsNode lists x → nodes lists < x + n → IsDemand p.steps (p.offer x cut)
  offer_below zero x node over = absurd (omega (arith, node.1, over))
  offer_below (suc n) x node over = elim (cases_Bool (is_leaf lists x)) [
    | inl leaf ↦ subst (IsDemand p.steps) (sym (by.device x cut leaf)) (market.demands x (cut x) leaf)
    | inr inner ↦
        let conc : IsConcentrator lists x = (node.0, node.1, inner) in
        let limited = market.limited x cut conc in
        let sum : List ℤ = p.add x (λ z. p.offer z cut) in
        let each : (z : ℕ) → IsNode lists z → parent lists z ≡ x → IsDemand p.steps (p.offer z cut) =
        λ z z_node up. offer_below n z z_node (omega (arith, over, market.law.earlier z z_node, up)) in
        subst (IsDemand p.steps) (sym (by.relay x cut conc ∙ ap (λ l. announced l sum) limited.1))
        (said limited.0 p.steps sum (sum_long x each) (sum_down x each))
  ]

  -- each node's offer is a demand that a bid may have
  pub offer_is : (x : ℕ) → IsNode lists x → IsDemand p.steps (p.offer x cut)
  offer_is x node = offer_below (suc (nodes lists)) x node (omega arith)

  -- ---- local steps

  pub long : (y : ℕ) → length (p.add y (λ x. p.offer x cut)) ≡ p.steps
  long y = sum_long y (λ x node up. offer_is x node)

  step_above : (n x : ℕ) → IsNode lists x → x < n → p.local cut x < p.steps
  step_above zero x node below = absurd (omega (arith, below))
  step_above (suc n) x node below =
      let y : ℕ = parent lists x in
      let sum : List ℤ = p.add (parent lists x) (λ z. p.offer z cut) in
      elim (cases_eq (parent lists x) 0) [
        | inl up ↦
            let total : List ℤ = p.add 0 (λ z. p.offer z cut) in
            let first = first_at_most_is_first (pos 0) total (omega (arith, long 0, market.steps.least)) in
            omega (arith, by.root x cut node up, first.inside, long 0)
        | inr ne ↦
            let conc : IsConcentrator lists (parent lists x) = parent_relay lists market.law x node ne in
            let limited = market.limited (parent lists x) cut conc in
            let above : p.local cut (parent lists x) < p.steps =
            step_above n (parent lists x) (conc.0, conc.1) (omega (arith, below, market.law.earlier x node)) in
            omega (
              arith,
              by.below x cut node conc ∙ ap (λ l. settled_step l (p.local cut (parent lists x)) sum) limited.1,
              settled_inside limited.0 (p.local cut (parent lists x)) sum (omega (arith, above, long (parent lists x))),
              long (parent lists x),
            )
      ]

  -- each local step is one of the steps
  pub step_is : (x : ℕ) → IsNode lists x → p.local cut x < p.steps
  step_is x node = step_above (suc x) x node (omega arith)

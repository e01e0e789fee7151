-- What the devices below a node take together is what the node announced.
use Rattle.std.proofs.Common.{◌≡◌, ◌∙◌, sym, ap, subst, ℕ, zero, suc, ◌+◌, ◌<◌, ◌≤◌, true, ℤ, pos, ◌+ℤ◌}
use Rattle.std.proofs.Common.{◌≤ℤ◌, cond, eqb, List, length, Some}
use Rattle.std.proofs.Common.{inl, inr, arith}
use Rattle.std.proofs.lemmas.Bool.{cases_eq, cases_Bool, cond-true, cond-false, eqb-true}
use Rattle.pm_base.specs.Cuts.{Cut}
use Rattle.pm_base.specs.declared.limits.Limits.{Limits}
use Rattle.pm_bid.specs.Bids.{demand_at, NeverRises, pairwise_sum}
use Rattle.pm_bid.specs.Clearing.{clearing_step}
use Rattle.pm_bid.specs.Taken.{settled_step, IsWithinLimits, HasStepWithin}
use Rattle.pm_bid.proofs.EachStep.{pairwise_sum-at, length-added}
use Rattle.pm_bid.proofs.Sums.{length-zeros, zeros-at}
use Rattle.pm_bid.proofs.FoundStep.{first_at_most_is_first}
use Rattle.pm_bid.proofs.Taken.{length-announced, settled_step_inside, announced_is_taken, settled_within}
use Rattle.pm_market.specs.Lists.{Lists, nodes, parent, is_leaf, is_below, IsNode, IsLeaf, IsInner, IsConcentrator, Lawful}
use Rattle.pm_market.specs.Offers.{int_sum_to, sum_children}
use Rattle.pm_market.proofs.Tree.{below_itself, below_parent, leaf_zero}
use Rattle.pm_laws.proofs.Offers.{int_sum_same, sum_on_leaf, sum_on_inner}
use Rattle.pm_net.specs.Pricing.{Pricing, GoesByNodes}
use Rattle.std.proofs.lemmas.Int.{ints}
use Rattle.pm_net.specs.TreeAuction.{TreeDemand, add_to, add_below, tree_pricing}
use Rattle.pm_net.specs.Flow.{power_at, power_below, sum_of_offers, AddsAtEachStep, SaysBelow}

-- sums over the children are the same where their terms are
sum_children_same : (lists : Lists) (y : ℕ) (f g : ℕ → ℤ) → ((x : ℕ) → IsNode lists x → parent lists x ≡ y → f x ≡ g x) →
    sum_children lists y f ≡ sum_children lists y g
unfolding sum_children
sum_children_same lists y f g h =
    int_sum_same (nodes lists) (λ x. cond (eqb (parent lists x) y) (f x) (pos 0)) (λ x. cond (eqb (parent lists x) y) (g x) (pos 0)) (λ x one le.
    elim (cases_Bool (eqb (parent lists x) y)) [
      | inl e ↦ cond-true (eqb (parent lists x) y) (f x) (pos 0) e ∙ h x (one, le) (eqb-true (parent lists x) y e)
          ∙ sym (cond-true (eqb (parent lists x) y) (g x) (pos 0) e)
      | inr e ↦ cond-false (eqb (parent lists x) y) (f x) (pos 0) e ∙ sym (cond-false (eqb (parent lists x) y) (g x) (pos 0) e)
    ])

module _ (lists : Lists) (law : Lawful lists) (p : Pricing) (by : GoesByNodes lists p) (adds : AddsAtEachStep lists p) (cut : Cut) where
  -- each offer has one demand for each step
  long_below : (n x : ℕ) → IsNode lists x → nodes lists < x + n → length (p.offer x cut) ≡ p.steps
  long_below zero x node over = absurd (omega (arith, node.1, over))
  long_below (suc n) x node over = elim (cases_Bool (is_leaf lists x)) [
    | inl leaf ↦ ap length (by.device x cut leaf) ∙ adds.one_each x (cut x) leaf
    | inr inner ↦
        ap length (by.relay x cut (node.0, node.1, inner)) ∙ length-announced (p.limits x cut) (sum_of_offers p cut x)
        ∙ adds.long x (λ z. p.offer z cut) (λ z z_node up. long_below n z z_node (omega (arith, over, law.earlier z z_node, up)))
  ]

  offer_long : (x : ℕ) → IsNode lists x → length (p.offer x cut) ≡ p.steps
  offer_long x node = long_below (suc (nodes lists)) x node (omega arith)

  -- so has each sum
  pub sum_long : (y : ℕ) → length (sum_of_offers p cut y) ≡ p.steps
  sum_long y = adds.long y (λ x. p.offer x cut) (λ x node up. offer_long x node)

  inside_above : (n x : ℕ) → IsNode lists x → x < n → p.local cut x < p.steps
  inside_above zero x node below = absurd (omega (arith, below))
  inside_above (suc n) x node below = elim (cases_eq (parent lists x) 0) [
    | inl up ↦
        let first = first_at_most_is_first (pos 0) (sum_of_offers p cut 0) (omega (arith, sum_long 0, adds.some)) in
        omega (arith, by.root x cut node up, first.inside, sum_long 0)
    | inr ne ↦
        let y : ℕ = parent lists x in
        let earlier = law.earlier x node in
        let conc : IsConcentrator lists (parent lists x) = (omega (arith, ne), omega (arith, earlier, node.1), law.inner x node) in
        let above = inside_above n (parent lists x) (conc.0, conc.1) (omega (arith, below, earlier)) in
        omega (
          arith,
          by.below x cut node conc,
          settled_step_inside (p.limits (parent lists x) cut) (p.local cut (parent lists x)) (sum_of_offers p cut (parent lists x))
              (omega (arith, above, sum_long (parent lists x))),
          sum_long (parent lists x),
        )
  ]

  -- each local step is one of the steps
  pub local_inside : (x : ℕ) → IsNode lists x → p.local cut x < p.steps
  local_inside x node = inside_above (suc x) x node (omega arith)

  -- what the devices below an inner node take is the sum of the offers at a step, where each child takes what it offers there
  by_children : (y k : ℕ) → IsInner lists y → k < p.steps →
      ((x : ℕ) → IsNode lists x → parent lists x ≡ y → power_below lists p cut x ≡ demand_at (p.offer x cut) k) →
      power_below lists p cut y ≡ demand_at (sum_of_offers p cut y) k
  by_children y k inner inside each =
      sum_on_inner lists law y (power_at p cut) inner
      ∙ sum_children_same lists y (λ x. power_below lists p cut x) (λ x. demand_at (p.offer x cut) k) each
      ∙ sym (adds.adds y k (λ x. p.offer x cut) (λ x node up. offer_long x node) inside)

  module _ (c : ℕ) (conc : IsConcentrator lists c) where
    abbrev local_sum : List ℤ
    local_sum = sum_of_offers p cut c

    -- the step of the children of a relay
    abbrev below_step : ℕ
    below_step = settled_step (p.limits c cut) (p.local cut c) (sum_of_offers p cut c)

    below_inside : below_step < p.steps
    below_inside = omega (
      arith,
      settled_step_inside (p.limits c cut) (p.local cut c) (sum_of_offers p cut c) (omega (arith, local_inside c (conc.0, conc.1), sum_long c)),
      sum_long c,
    )

    child_step : (x : ℕ) → IsNode lists x → parent lists x ≡ c → p.local cut x ≡ below_step
    child_step x node up =
        let conc' : IsConcentrator lists (parent lists x) = subst (λ (z : ℕ). IsConcentrator lists z) (sym up) conc in
        by.below x cut node conc' ∙ ap (λ (z : ℕ). settled_step (p.limits z cut) (p.local cut z) (sum_of_offers p cut z)) up

    taken_from : ((x : ℕ) → IsNode lists x → parent lists x ≡ c → power_below lists p cut x ≡ demand_at (p.offer x cut) (p.local cut x)) →
        power_below lists p cut c ≡ demand_at (sum_of_offers p cut c) below_step
    taken_from each = by_children c below_step conc.2 below_inside (λ x node up. each x node up ∙ ap (demand_at (p.offer x cut)) (child_step x node up))

  -- a node's devices take together what it offers at its own local step
  node_below : (n x : ℕ) → IsNode lists x → nodes lists < x + n → SaysBelow lists p cut x →
      power_below lists p cut x ≡ demand_at (p.offer x cut) (p.local cut x)
  node_below zero x node over says = absurd (omega (arith, node.1, over))
  node_below (suc n) x node over says = elim (cases_Bool (is_leaf lists x)) [
    | inl leaf ↦ sum_on_leaf lists law x (power_at p cut) leaf ∙ ap (λ (b : List ℤ). demand_at b (p.local cut x)) (sym (by.device x cut leaf))
    | inr inner ↦
        let conc : IsConcentrator lists x = (node.0, node.1, inner) in
        taken_from x conc (λ z z_node up. node_below n z z_node (omega (arith, over, law.earlier z z_node, up))
        (λ c c_conc below. says c c_conc (subst (λ (y : ℕ). is_below lists y c ≡ true) up (below_parent lists law z c below))))
        ∙ sym (announced_is_taken (p.limits x cut) (p.local cut x) (sum_of_offers p cut x) (omega (arith, local_inside x node, sum_long x))
        (says x conc (below_itself lists law x)))
        ∙ ap (λ (b : List ℤ). demand_at b (p.local cut x)) (sym (by.relay x cut conc))
  ]

  -- what the devices below a node take is what it offers at its own step
  pub flows_as_offered : (x : ℕ) → IsNode lists x → SaysBelow lists p cut x → power_below lists p cut x ≡ demand_at (p.offer x cut) (p.local cut x)
  flows_as_offered x node says = node_below (suc (nodes lists)) x node (omega arith) says

  -- a relay's devices take together what its sum has at the step for which it settles
  pub flows_as_settled : (c : ℕ) → IsConcentrator lists c → SaysBelow lists p cut c →
      power_below lists p cut c ≡ demand_at (sum_of_offers p cut c) (settled_step (p.limits c cut) (p.local cut c) (sum_of_offers p cut c))
  flows_as_settled c conc says = taken_from c conc (λ z z_node up. flows_as_offered z z_node
      (λ d d_conc below. says d d_conc (subst (λ (y : ℕ). is_below lists y d ≡ true) up (below_parent lists law z d below))))

  -- they keep its limits if some step of the sum does
  pub flows_within : (c : ℕ) (limits : Limits) → IsConcentrator lists c → SaysBelow lists p cut c → p.limits c cut ≡ Some limits →
      NeverRises (sum_of_offers p cut c) → HasStepWithin limits (sum_of_offers p cut c) → IsWithinLimits limits (power_below lists p cut c)
  flows_within c limits conc says is falls has =
      subst (IsWithinLimits limits)
      (sym (flows_as_settled c conc says ∙ ap (λ l. demand_at (sum_of_offers p cut c) (settled_step l (p.local cut c) (sum_of_offers p cut c))) is))
      (settled_within limits (p.local cut c) (sum_of_offers p cut c) falls has)

  -- all devices take together the auctioneer's total at the clearing step
  pub flows_as_cleared : SaysBelow lists p cut 0 →
      power_below lists p cut 0 ≡ demand_at (sum_of_offers p cut 0) (clearing_step (sum_of_offers p cut 0))
  flows_as_cleared says =
      let total : List ℤ = sum_of_offers p cut 0 in
      let first = first_at_most_is_first (pos 0) (sum_of_offers p cut 0) (omega (arith, sum_long 0, adds.some)) in
      by_children 0 (clearing_step (sum_of_offers p cut 0)) (leaf_zero lists) (omega (arith, first.inside, sum_long 0)) (λ x node up.
      flows_as_offered x node (λ c conc below. says c conc (subst (λ (y : ℕ). is_below lists y c ≡ true) up (below_parent lists law x c below)))
      ∙ ap (demand_at (p.offer x cut)) (by.root x cut node up))

  -- so they take at most 0 together, unless the last step cleared
  pub flows_balanced : SaysBelow lists p cut 0 → clearing_step (sum_of_offers p cut 0) + 1 < p.steps → power_below lists p cut 0 ≤ℤ pos 0
  flows_balanced says early =
      let first = first_at_most_is_first (pos 0) (sum_of_offers p cut 0) (omega (arith, sum_long 0, adds.some)) in
      subst (λ (power : ℤ). power ≤ℤ pos 0) (sym (flows_as_cleared says)) (first.met (omega (arith, early, sum_long 0)))

-- ---- adding up the children in the order of the nodes

module _ (lists : Lists) (steps y : ℕ) (f : ℕ → List ℤ) (long : (x : ℕ) → IsNode lists x → parent lists x ≡ y → length (f x) ≡ steps) where
  long_to : (n : ℕ) → n ≤ nodes lists → length (add_to lists steps y f n) ≡ steps
  unfolding add_to
  long_to zero le = length-zeros steps
  long_to (suc n) le =
      let before : length (add_to lists steps y f n) ≡ steps = long_to n (omega arith) in
      elim (cases_Bool (eqb (parent lists (suc n)) y)) [
        | inl e ↦
            let here : length (f (suc n)) ≡ steps = long (suc n) (omega arith, le) (eqb-true (parent lists (suc n)) y e) in
            ap length (cond-true (eqb (parent lists (suc n)) y) (pairwise_sum (f (suc n)) (add_to lists steps y f n)) (add_to lists steps y f n) e)
            ∙ length-added (f (suc n)) (add_to lists steps y f n) (here ∙ sym before) ∙ here
        | inr e ↦
            ap length (cond-false (eqb (parent lists (suc n)) y) (pairwise_sum (f (suc n)) (add_to lists steps y f n)) (add_to lists steps y f n) e)
            ∙ before
      ]

  added_to : (k : ℕ) → k < steps → (n : ℕ) → n ≤ nodes lists →
      demand_at (add_to lists steps y f n) k ≡ int_sum_to n (λ x. cond (eqb (parent lists x) y) (demand_at (f x) k) (pos 0))
  unfolding add_to int_sum_to
  added_to k inside zero le = zeros-at steps k
  added_to k inside (suc n) le =
      let g : ℕ → ℤ = λ x. cond (eqb (parent lists x) y) (demand_at (f x) k) (pos 0) in
      let before : demand_at (add_to lists steps y f n) k ≡ int_sum_to n g = added_to k inside n (omega arith) in
      let rest : length (add_to lists steps y f n) ≡ steps = long_to n (omega arith) in
      elim (cases_Bool (eqb (parent lists (suc n)) y)) [
        | inl e ↦
            let here : length (f (suc n)) ≡ steps = long (suc n) (omega arith, le) (eqb-true (parent lists (suc n)) y e) in
            ap (λ (b : List ℤ). demand_at b k)
            (cond-true (eqb (parent lists (suc n)) y) (pairwise_sum (f (suc n)) (add_to lists steps y f n)) (add_to lists steps y f n) e)
            ∙ pairwise_sum-at (f (suc n)) (add_to lists steps y f n) k (omega (arith, inside, here)) (here ∙ sym rest)
            ∙ ap (λ (z : ℤ). demand_at (f (suc n)) k +ℤ z) before
            ∙ ap (λ (z : ℤ). z +ℤ int_sum_to n g) (sym (cond-true (eqb (parent lists (suc n)) y) (demand_at (f (suc n)) k) (pos 0) e))
        | inr e ↦
            ap (λ (b : List ℤ). demand_at b k)
            (cond-false (eqb (parent lists (suc n)) y) (pairwise_sum (f (suc n)) (add_to lists steps y f n)) (add_to lists steps y f n) e)
            ∙ before ∙ none_left (int_sum_to n g)
            ∙ ap (λ (z : ℤ). z +ℤ int_sum_to n g) (sym (cond-false (eqb (parent lists (suc n)) y) (demand_at (f (suc n)) k) (pos 0) e))
      ]
    where
      none_left : (a : ℤ) → a ≡ pos 0 +ℤ a
      none_left a = omega (arith, ints)

-- it adds up
pub adds_in_node_order : (lists : Lists) (a : TreeDemand) → a.add ≡ add_below lists a.steps → 1 ≤ a.steps →
    ((d n : ℕ) → IsLeaf lists d → length (a.demand d n) ≡ a.steps) → AddsAtEachStep lists (tree_pricing lists a)
unfolding sum_children
adds_in_node_order lists a is some long = record {
  some = some;
  one_each = long;
  long = λ y f each. ap (λ (add : ℕ → (ℕ → List ℤ) → List ℤ). length (add y f)) is ∙ long_to lists a.steps y f each (nodes lists)
      (omega arith);
  adds = λ y k f each inside. ap (λ (add : ℕ → (ℕ → List ℤ) → List ℤ). demand_at (add y f) k) is
      ∙ added_to lists a.steps y f each k inside (nodes lists) (omega arith);
}

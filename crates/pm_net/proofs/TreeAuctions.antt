-- The auction of a tree goes from node to node.
use Rattle.std.proofs.Common.{◌≡◌, ◌∙◌, sym, ap, subst, ℕ, zero, suc, ◌+◌, ◌<◌, ◌≤◌, ℤ, eqb, inl, inr, List}
use Rattle.std.proofs.Common.{Some, refl, arith}
use Rattle.std.proofs.lemmas.Bool.{cases_eq, cases_Bool, cond-true, cond-false, eqb-true, eq-eqb, ne_eqb}
use Rattle.pm_base.specs.Cuts.{Cut}
use Rattle.pm_base.specs.Limits.{AreLimits}
use Rattle.pm_base.specs.declared.limits.Limits.{Limits}
use Rattle.pm_bid.specs.Bids.{zeros, pairwise_sum}
use Rattle.pm_bid.specs.Clearing.{clearing_step}
use Rattle.pm_bid.specs.Taken.{announced, settled_step}
use Rattle.pm_bid.proofs.Sums.{pairwise_sum-zeros}
use Rattle.pm_bid.proofs.Taken.{announced-zeros}
use Rattle.pm_market.specs.Lists.{Lists, nodes, parent, is_leaf, IsNode, IsLeaf, IsInner, IsConcentrator, IsLeafOf, Lawful}
use Rattle.pm_market.specs.State.{SameOn, no_changes}
use Rattle.pm_market.proofs.Tree.{leaf_of_itself, leaf_of_parent, leaf_of_parts}
use Rattle.pm_net.specs.Pricing.{GoesByNodes, LimitsGoByDevices}
use Rattle.pm_net.specs.TreeAuction.{TreeDemand, IsTreeDemand, add_to, add_below, offer_in, tree_offer, step_in, tree_step, tree_pricing}

-- sums see the children alone
add_alike : (lists : Lists) (steps y : ℕ) (f g : ℕ → List ℤ) → ((x : ℕ) → IsNode lists x → parent lists x ≡ y → f x ≡ g x) →
    (n : ℕ) → n ≤ nodes lists →
    add_to lists steps y f n ≡ add_to lists steps y g n
unfolding add_to
add_alike lists steps y f g h zero le = refl
add_alike lists steps y f g h (suc n) le =
    let before : add_to lists steps y f n ≡ add_to lists steps y g n = add_alike lists steps y f g h n (omega arith) in
    elim (cases_Bool (eqb (parent lists (suc n)) y)) [
      | inl e ↦
          cond-true (eqb (parent lists (suc n)) y) (pairwise_sum (f (suc n)) (add_to lists steps y f n)) (add_to lists steps y f n) e
          ∙ ap (λ v. pairwise_sum v (add_to lists steps y f n)) (h (suc n) (omega arith, le) (eqb-true (parent lists (suc n)) y e))
          ∙ ap (pairwise_sum (g (suc n))) before
          ∙ sym (cond-true (eqb (parent lists (suc n)) y) (pairwise_sum (g (suc n)) (add_to lists steps y g n)) (add_to lists steps y g n) e)
      | inr e ↦
          cond-false (eqb (parent lists (suc n)) y) (pairwise_sum (f (suc n)) (add_to lists steps y f n)) (add_to lists steps y f n) e ∙ before
          ∙ sym (cond-false (eqb (parent lists (suc n)) y) (pairwise_sum (g (suc n)) (add_to lists steps y g n)) (add_to lists steps y g n) e)
    ]

add_zeros : (lists : Lists) (steps y : ℕ) (f : ℕ → List ℤ) → ((x : ℕ) → IsNode lists x → parent lists x ≡ y → f x ≡ zeros steps) →
    (n : ℕ) → n ≤ nodes lists →
    add_to lists steps y f n ≡ zeros steps
unfolding add_to
add_zeros lists steps y f h zero le = refl
add_zeros lists steps y f h (suc n) le =
    let before : add_to lists steps y f n ≡ zeros steps = add_zeros lists steps y f h n (omega arith) in
    elim (cases_Bool (eqb (parent lists (suc n)) y)) [
      | inl e ↦
          cond-true (eqb (parent lists (suc n)) y) (pairwise_sum (f (suc n)) (add_to lists steps y f n)) (add_to lists steps y f n) e
          ∙ ap (λ v. pairwise_sum v (add_to lists steps y f n)) (h (suc n) (omega arith, le) (eqb-true (parent lists (suc n)) y e))
          ∙ ap (pairwise_sum (zeros steps)) before ∙ pairwise_sum-zeros steps
      | inr e ↦ cond-false (eqb (parent lists (suc n)) y) (pairwise_sum (f (suc n)) (add_to lists steps y f n)) (add_to lists steps y f n) e ∙ before
    ]

module _ (lists : Lists) (law : Lawful lists) (a : TreeDemand) (asked : IsTreeDemand lists a) where
  -- one level of an offer
  offer_leaf : (cut : Cut) (levels x : ℕ) → IsLeaf lists x → offer_in lists a cut (suc levels) x ≡ a.demand x (cut x)
  unfolding offer_in
  offer_leaf cut levels x leaf =
      cond-true (is_leaf lists x) (a.demand x (cut x)) (announced (a.limits x cut) (a.add x (offer_in lists a cut levels))) leaf

  offer_relay : (cut : Cut) (levels x : ℕ) → IsInner lists x →
      offer_in lists a cut (suc levels) x ≡ announced (a.limits x cut) (a.add x (offer_in lists a cut levels))
  unfolding offer_in
  offer_relay cut levels x inner =
      cond-false (is_leaf lists x) (a.demand x (cut x)) (announced (a.limits x cut) (a.add x (offer_in lists a cut levels))) inner

  -- levels past the last node change nothing
  offer_enough : (cut : Cut) (f g x : ℕ) → IsNode lists x → nodes lists < x + f → nodes lists < x + g →
      offer_in lists a cut f x ≡ offer_in lists a cut g x
  offer_enough cut zero g x node f_le g_le = absurd (omega (arith, node.1))
  offer_enough cut (suc f) zero x node f_le g_le = absurd (omega (arith, node.1))
  offer_enough cut (suc f) (suc g) x node f_le g_le =
      elim (cases_Bool (is_leaf lists x)) [
        | inl leaf ↦ offer_leaf cut f x leaf ∙ sym (offer_leaf cut g x leaf)
        | inr inner ↦ offer_relay cut f x inner
            ∙ ap (announced (a.limits x cut)) (asked.sums x (offer_in lists a cut f) (offer_in lists a cut g) (λ z z_node up.
            offer_enough cut f g z z_node (omega (arith, f_le, law.earlier z z_node, up)) (omega (arith, g_le, law.earlier z z_node, up))))
            ∙ sym (offer_relay cut g x inner)
      ]

  -- an offer sees the node's leaves alone
  limits_on : (b c : Cut) (x : ℕ) → SameOn lists x b c → a.limits x b ≡ a.limits x c
  limits_on b c x same = asked.limits_alike x b c (λ d d_node leaf up.
      same d (subst (λ (i : ℕ). IsLeafOf lists i d) up (leaf_of_parent lists law d d (leaf_of_itself lists law d leaf))))

  alike_in : (b c : Cut) (f x : ℕ) → SameOn lists x b c → offer_in lists a b f x ≡ offer_in lists a c f x
  unfolding offer_in
  alike_in b c zero x same = refl
  alike_in b c (suc f) x same =
      elim (cases_Bool (is_leaf lists x)) [
        | inl leaf ↦ offer_leaf b f x leaf ∙ ap (a.demand x) (same x (leaf_of_itself lists law x leaf)) ∙ sym (offer_leaf c f x leaf)
        | inr inner ↦ offer_relay b f x inner
            ∙ ap (λ l. announced l (a.add x (offer_in lists a b f))) (limits_on b c x same)
            ∙ ap (announced (a.limits x c)) (asked.sums x (offer_in lists a b f) (offer_in lists a c f) (λ z z_node up.
            alike_in b c f z (λ d leaf. same d (subst (λ (i : ℕ). IsLeafOf lists i d) up (leaf_of_parent lists law z d leaf)))))
            ∙ sym (offer_relay c f x inner)
      ]

  alike : (x : ℕ) (b c : Cut) → SameOn lists x b c → tree_offer lists a x b ≡ tree_offer lists a x c
  unfolding tree_offer
  alike x b c same = alike_in b c (suc (nodes lists)) x same

  -- nobody asks for anything before the first change
  nothing_in : (f x : ℕ) → offer_in lists a no_changes f x ≡ zeros a.steps
  unfolding offer_in
  nothing_in zero x = refl
  nothing_in (suc f) x =
      elim (cases_Bool (is_leaf lists x)) [
        | inl leaf ↦ offer_leaf no_changes f x leaf ∙ asked.none x
        | inr inner ↦ offer_relay no_changes f x inner
            ∙ ap (announced (a.limits x no_changes)) (asked.sums_of_none x (offer_in lists a no_changes f) (λ z node up. nothing_in f z))
            ∙ announced-zeros (a.limits x no_changes) a.steps
      ]

  nothing : (x : ℕ) → tree_offer lists a x no_changes ≡ zeros a.steps
  unfolding tree_offer
  nothing x = nothing_in (suc (nodes lists)) x

  device : (d : ℕ) (cut : Cut) → IsLeaf lists d → tree_offer lists a d cut ≡ a.demand d (cut d)
  unfolding tree_offer
  device d cut leaf = offer_leaf cut (nodes lists) d leaf

  relay : (c : ℕ) (cut : Cut) → IsConcentrator lists c →
      tree_offer lists a c cut ≡ announced (a.limits c cut) (a.add c (λ z. tree_offer lists a z cut))
  unfolding tree_offer
  relay c cut conc =
      offer_relay cut (nodes lists) c conc.2
      ∙ ap (announced (a.limits c cut)) (asked.sums c (offer_in lists a cut (nodes lists)) (λ z. offer_in lists a cut (suc (nodes lists)) z) (λ z node up.
      offer_enough cut (nodes lists) (suc (nodes lists)) z node (omega (arith, node.0)) (omega (arith, node.0))))

  -- one level of a step
  abbrev total : Cut → ℕ → List ℤ
  total cut y = a.add y (λ z. tree_offer lists a z cut)

  step_root : (cut : Cut) (levels x : ℕ) → parent lists x ≡ 0 → step_in lists a cut (suc levels) x ≡ clearing_step (total cut 0)
  unfolding step_in
  step_root cut levels x up = cond-true (eqb (parent lists x) 0) (clearing_step (total cut 0))
      (settled_step (a.limits (parent lists x) cut) (step_in lists a cut levels (parent lists x)) (total cut (parent lists x))) (eq-eqb (parent lists x) 0 up)

  step_below : (cut : Cut) (levels x : ℕ) → (parent lists x ≡ 0 → ⊥) → step_in lists a cut (suc levels) x
      ≡ settled_step (a.limits (parent lists x) cut) (step_in lists a cut levels (parent lists x)) (total cut (parent lists x))
  unfolding step_in
  step_below cut levels x ne = cond-false (eqb (parent lists x) 0) (clearing_step (total cut 0))
      (settled_step (a.limits (parent lists x) cut) (step_in lists a cut levels (parent lists x)) (total cut (parent lists x))) (ne_eqb (parent lists x) 0 ne)

  step_enough : (cut : Cut) (f g x : ℕ) → IsNode lists x → x ≤ f → x ≤ g → step_in lists a cut f x ≡ step_in lists a cut g x
  step_enough cut zero g x node f_le g_le = absurd (omega (arith, node.0))
  step_enough cut (suc f) zero x node f_le g_le = absurd (omega (arith, node.0))
  step_enough cut (suc f) (suc g) x node f_le g_le =
      elim (cases_eq (parent lists x) 0) [
        | inl up ↦ step_root cut f x up ∙ sym (step_root cut g x up)
        | inr ne ↦ step_below cut f x ne
            ∙ ap (λ (k : ℕ). settled_step (a.limits (parent lists x) cut) k (total cut (parent lists x))) (step_enough cut f g (parent lists x)
            (omega arith, omega (arith, law.earlier x node, node.1)) (omega (arith, law.earlier x node)) (omega (arith, law.earlier x node)))
            ∙ sym (step_below cut g x ne)
      ]

  root : (x : ℕ) (cut : Cut) → parent lists x ≡ 0 → tree_step lists a cut x ≡ clearing_step (total cut 0)
  unfolding tree_step
  root x cut up = step_root cut (nodes lists) x up

  below : (x : ℕ) (cut : Cut) → IsNode lists x → IsConcentrator lists (parent lists x) →
      tree_step lists a cut x ≡ settled_step (a.limits (parent lists x) cut) (tree_step lists a cut (parent lists x)) (total cut (parent lists x))
  unfolding tree_step
  below x cut node conc =
      step_below cut (nodes lists) x (λ e. omega (arith, conc.0, e))
      ∙ ap (λ (k : ℕ). settled_step (a.limits (parent lists x) cut) k (total cut (parent lists x)))
      (step_enough cut (nodes lists) (suc (nodes lists)) (parent lists x) (conc.0, conc.1) conc.1 (omega (arith, conc.1)))

  -- a step sees all devices alone
  module _ (b c : Cut) (same : (d : ℕ) → IsLeaf lists d → b d ≡ c d) where
    total_alike : (y : ℕ) → total b y ≡ total c y
    total_alike y = asked.sums y (λ z. tree_offer lists a z b) (λ z. tree_offer lists a z c) (λ z node up.
        alike z b c (λ d leaf. same d (leaf_of_parts lists z d leaf).0))

    steps_in : (f x : ℕ) → step_in lists a b f x ≡ step_in lists a c f x
    unfolding step_in
    steps_in zero x = refl
    steps_in (suc f) x =
        elim (cases_eq (parent lists x) 0) [
          | inl up ↦ step_root b f x up ∙ ap clearing_step (total_alike 0) ∙ sym (step_root c f x up)
          | inr ne ↦ step_below b f x ne
              ∙ ap (λ (k : ℕ). settled_step (a.limits (parent lists x) b) k (total b (parent lists x))) (steps_in f (parent lists x))
              ∙ ap (λ l. settled_step l (step_in lists a c f (parent lists x)) (total b (parent lists x)))
              (asked.limits_alike (parent lists x) b c (λ d node leaf up. same d leaf))
              ∙ ap (settled_step (a.limits (parent lists x) c) (step_in lists a c f (parent lists x))) (total_alike (parent lists x))
              ∙ sym (step_below c f x ne)
        ]

    steps_alike : (x : ℕ) → tree_step lists a b x ≡ tree_step lists a c x
    unfolding tree_step
    steps_alike x = steps_in (suc (nodes lists)) x

  -- the auction of a tree goes from node to node
  pub goes_by_nodes : GoesByNodes lists (tree_pricing lists a)
  goes_by_nodes = record {
    sums = asked.sums;
    alike = alike;
    steps_alike = λ x b c node same. steps_alike b c same x;
    limits_alike = asked.limits_alike;
    nothing = λ x node. nothing x;
    device = device;
    relay = relay;
    root = λ x cut node up. root x cut up;
    below = below;
  }

-- sums over the children in the order of the nodes are such sums
pub in_node_order : (lists : Lists) (a : TreeDemand) → a.add ≡ add_below lists a.steps → ((d : ℕ) → a.demand d 0 ≡ zeros a.steps) →
    ((x : ℕ) (cut : Cut) (l : Limits) → a.limits x cut ≡ Some l → AreLimits l) → LimitsGoByDevices lists a.limits → IsTreeDemand lists a
in_node_order lists a is none around by = record {
  none = none;
  sums = λ y f g same.
      ap (λ (add : ℕ → (ℕ → List ℤ) → List ℤ). add y f) is ∙ add_alike lists a.steps y f g same (nodes lists) (omega arith)
      ∙ sym (ap (λ (add : ℕ → (ℕ → List ℤ) → List ℤ). add y g) is);
  sums_of_none = λ y f nothing.
      ap (λ (add : ℕ → (ℕ → List ℤ) → List ℤ). add y f) is ∙ add_zeros lists a.steps y f nothing (nodes lists) (omega arith);
  around = around;
  limits_alike = by;
}

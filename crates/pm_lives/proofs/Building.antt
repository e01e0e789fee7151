-- Lists over a tree, and a market, in which each device is a member as is wanted.
use Rattle.std.proofs.Common.{◌≡◌, ◌∙◌, sym, ap, subst, ℕ, ℤ, zero, suc, ◌+◌, ◌<◌, ◌≤◌, Bool, true, false, cond, eqb}
use Rattle.std.proofs.Common.{List, [], ◌∷◌, length, map, get_or, Some, refl, inl, inr, arith}
use Rattle.std.proofs.lemmas.Bool.{cases_eq, cond-true, cond-false, eq-eqb, ne_eqb}
use Rattle.std.proofs.lemmas.List.FromFn.{get_or-map-range_with_len}
use Rattle.std.specs.List.{range_with_len}
use Rattle.pm_base.specs.Cuts.{Cut}
use Rattle.pm_base.specs.Limits.{AreLimits, most_nodes}
use Rattle.pm_base.specs.declared.limits.Limits.{Limits}
use Rattle.pm_bid.specs.Bids.{zeros, sum_of}
use Rattle.pm_bid.proofs.Sums.{sum_of-replicate_zeros}
use Rattle.pm_market.specs.Lists.{Lists, nodes, parent, is_leaf, is_member, changes, end_count, path_depth, path_depth_in, IsNode, IsLeaf, Lawful}
use Rattle.pm_market.proofs.Tree.{leaf_node}
use Rattle.pm_net.specs.Pricing.{Pricing}
use Rattle.pm_net.specs.Messages.{bid_message}
use Rattle.pm_net.specs.TreeAuction.{TreeDemand, IsTreeDemand, tree_pricing}
use Rattle.pm_net.proofs.TreeAuctions.{goes_by_nodes}
use Rattle.pm_net.proofs.Messages.{either}
use Rattle.pm_net_plan.specs.Places.{Numbering, IsNumbering, demands_of}
use Rattle.pm_relay_net.proofs.Places.{demands_of-same, demands_of-none}
use Rattle.pm_system.specs.Given.{IsDemand, IsTreeMarket}

abbrev pub lists_of : Lists → (ℕ → ℕ → Bool) → ℕ → Lists
lists_of tree member count = record tree {
  members = map (λ (d : ℕ). map (member d) (range_with_len 1 count)) (range_with_len 1 (nodes tree));
  ends = map (λ (d : ℕ). count) (range_with_len 1 (nodes tree)) ∷ [];
}

abbrev pub demand_of : Lists → ℕ → (ℕ → ℕ → List ℤ) → ℕ → ℕ → List ℤ
demand_of lists steps offer d n = cond (is_member lists d n) (offer d n) (zeros steps)

abbrev pub pricing_of : Lists → Numbering → ℕ → (ℕ → ℕ → List ℤ) → Pricing → Pricing
pricing_of lists numbering steps' demand' p = tree_pricing lists (record {
  steps = steps';
  demand = demand';
  limits = p.limits;
  add = λ y f. sum_of steps' (demands_of steps' numbering y f);
})

module _ (tree : Lists) (member : ℕ → ℕ → Bool) (count : ℕ) where
  abbrev lists : Lists
  lists = lists_of tree member count

  row : (d : ℕ) → IsNode tree d → get_or ([] ∷ (lists_of tree member count).members) d [] ≡ map (member d) (range_with_len 1 count)
  row zero node = absurd (omega (arith, node.0))
  row (suc d) node =
      get_or-map-range_with_len (λ (d : ℕ). map (member d) (range_with_len 1 count)) 1 (nodes tree) d (suc d) [] (omega (arith, node.1)) (omega arith)

  -- each device has as many numbers as are asked for
  pub changes_are : (d : ℕ) → IsNode tree d → changes (lists_of tree member count) d ≡ count
  unfolding changes
  changes_are d node = ap (λ (l : List Bool). length l) (row d node) ∙ row_long (member d) 1 count
    where
      row_long : (f : ℕ → Bool) (a n : ℕ) → length (map f (range_with_len a n)) ≡ n
      row_long f a zero = refl
      row_long f a (suc n) = ap suc (row_long f (a + 1) n)

  -- under each of them it is a member as is asked for
  pub members_are : (d n : ℕ) → IsNode tree d → 1 ≤ n → n ≤ count → is_member (lists_of tree member count) d n ≡ member d n
  unfolding is_member
  members_are d zero node one le = absurd (omega (arith, one))
  members_are d (suc n) node one le =
      ap (λ (l : List Bool). get_or l n false) (row d node)
      ∙ get_or-map-range_with_len (member d) 1 count n (suc n) false (omega (arith, le)) (omega arith)

  ends_are : (d : ℕ) → IsNode tree d → end_count (lists_of tree member count) 1 d ≡ count
  unfolding end_count
  ends_are zero node = absurd (omega (arith, node.0))
  ends_are (suc d) node = get_or-map-range_with_len (λ (d : ℕ). count) 1 (nodes tree) d (suc d) 0 (omega (arith, node.1)) (omega arith)

  start_is : (d : ℕ) → end_count (lists_of tree member count) 0 d ≡ 0
  unfolding end_count
  start_is zero = refl
  start_is (suc d) = refl

  leaf_is : (d : ℕ) → IsLeaf (lists_of tree member count) d → IsLeaf tree d
  unfolding is_leaf
  leaf_is d leaf = leaf

  depth_in_is : (levels x : ℕ) → path_depth_in (lists_of tree member count) levels x ≡ path_depth_in tree levels x
  unfolding path_depth_in parent is_leaf
  depth_in_is zero x = refl
  depth_in_is (suc levels) x =
      ap (λ (n : ℕ). cond (eqb x 0) 0 (cond (is_leaf tree x) 0 1 + n)) (depth_in_is levels (parent tree x))

  depth_is : (x : ℕ) → path_depth (lists_of tree member count) x ≡ path_depth tree x
  unfolding path_depth
  depth_is x = depth_in_is x x

  -- lists over a lawful tree are lawful
  pub lawful : Lawful tree → Lawful (lists_of tree member count)
  unfolding parent is_leaf
  lawful law = record {
    leaves = law.leaves;
    earlier = law.earlier;
    inner = law.inner;
    depth = λ x node. subst (λ (n : ℕ). n ≤ Rattle.pm_base.specs.Limits.most_depth) (sym (depth_is x)) (law.depth x node);
    ends_rise = λ q d leaf inside. omega (arith, ap (λ (i : ℕ). end_count (lists_of tree member count) i d) (zero_only q inside), start_is d);
    ends_last = λ d leaf. let node = leaf_node tree law d leaf in ends_are d node ∙ sym (changes_are d node);
  }
    where
      zero_only : (q : ℕ) → q < 1 → q ≡ 0
      zero_only q inside = omega (arith, inside)

  module _ (offer : ℕ → ℕ → List ℤ) (p : Pricing) (numbering : Numbering) (market : IsTreeMarket tree p numbering)
      (around : (x : ℕ) (cut : Cut) (l : Limits) → p.limits x cut ≡ Some l → AreLimits l) (offers : (d n : ℕ) → IsDemand p.steps (offer d n))
      (nothing : IsDemand p.steps (zeros p.steps)) where
    abbrev pub asked_demand : ℕ → ℕ → List ℤ
    asked_demand = demand_of (lists_of tree member count) p.steps offer

    is : IsNumbering (lists_of tree member count) numbering
    unfolding parent
    is = record { inside = market.places.inside; there = market.places.there; child_is = market.places.child_is }

    abbrev add : ℕ → (ℕ → List ℤ) → List ℤ
    add y f = sum_of p.steps (demands_of p.steps numbering y f)

    sums : (y : ℕ) (f g : ℕ → List ℤ) → ((x : ℕ) → IsNode lists x → parent lists x ≡ y → f x ≡ g x) → add y f ≡ add y g
    sums y f g each = ap (sum_of p.steps) (demands_of-same lists numbering is p.steps y (λ z. bid_message 0 true (f z)) (λ z. bid_message 0 true (g z))
        (λ x node up. ap (bid_message 0 true) (each x node up)))

    sums_of_none : (y : ℕ) (f : ℕ → List ℤ) → ((x : ℕ) → IsNode lists x → parent lists x ≡ y → f x ≡ zeros p.steps) →
        add y f ≡ zeros p.steps
    sums_of_none y f each = ap (sum_of p.steps) (demands_of-none numbering y p.steps f (λ k inside.
        elim (cases_eq (numbering.child y k) 0) [
          | inl e ↦ cond-true (eqb (numbering.child y k) 0) (zeros p.steps) (f (numbering.child y k)) (eq-eqb (numbering.child y k) 0 e)
          | inr ne ↦
              let at = is.child_is y k inside ne in
              cond-false (eqb (numbering.child y k) 0) (zeros p.steps) (f (numbering.child y k)) (ne_eqb (numbering.child y k) 0 ne)
              ∙ each (numbering.child y k) at.0 at.1
        ])) ∙ sum_of-replicate_zeros p.steps most_nodes

    none_at_zero : (d : ℕ) → is_member (lists_of tree member count) d 0 ≡ false
    unfolding is_member
    none_at_zero d = refl

    abbrev asked : TreeDemand
    asked = record { steps = p.steps; demand = asked_demand; limits = p.limits; add = add }

    is_asked : IsTreeDemand lists asked
    unfolding parent is_leaf
    is_asked = record {
      none = λ d. cond-false (is_member lists d 0) (offer d 0) (zeros p.steps) (none_at_zero d);
      sums = sums;
      sums_of_none = sums_of_none;
      around = around;
      limits_alike = market.by_nodes.limits_alike;
    }

    -- with these offers they are a market
    pub is_market : IsTreeMarket (lists_of tree member count) (pricing_of (lists_of tree member count) numbering p.steps
        (demand_of (lists_of tree member count) p.steps offer) p) numbering
    unfolding is_leaf
    is_market = record {
      law = lawful market.law;
      one_phase = refl;
      by_nodes = goes_by_nodes lists (lawful market.law) asked is_asked;
      places = is;
      by_places = λ y f. refl;
      steps = market.steps;
      demands = λ d n leaf. either (λ (l : List ℤ). IsDemand p.steps l) (is_member lists d n) (offer d n) (zeros p.steps) (λ e. offers d n)
          (λ e. nothing);
      absent = λ d n leaf out. cond-false (is_member lists d n) (offer d n) (zeros p.steps) out;
      limited = market.limited;
    }

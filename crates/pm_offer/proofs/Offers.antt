-- Offers go up the tree: the offer of a device is its demand, that of a concentrator the sum of its children's offers within
-- its limits, and the total is the sum of the offers of the auctioneer's children.
use Rattle.std.proofs.Common.{map, ◌≡◌, ◌∙◌, sym, ap, subst, ℕ, ◌<◌, ◌≤◌, ℤ, pos, Bool, true, false, cond, eqb, inl, inr, List}
use Rattle.std.proofs.Common.{length, refl, arith}
use Rattle.std.specs.Prelude.{is_some, ◌&&◌, not}
use Rattle.std.proofs.lemmas.Int.{ints}
use Rattle.std.proofs.lemmas.Bool.{cases_Bool, cond-true, cond-false, and_parts, and_from, both_ways, false_from_ne_true, eq-eqb, ne_eqb, eqb-true}
use Rattle.pm_base.specs.Cuts.{Cut}
use Rattle.pm_base.proofs.Options.{none_of}
use Rattle.pm_bid.specs.Bids.{pairwise_sum, demand_at, zeros, sum_of}
use Rattle.pm_bid.specs.Limited.{within_limits}
use Rattle.pm_bid.proofs.EachStep.{same_bids}
use Rattle.pm_market.specs.Lists.{parent, is_leaf, IsLeaf, IsInner, IsConcentrator, IsLeafOf, is_below, is_leaf_of}
use Rattle.pm_market.specs.Offers.{int_sum_to}
use Rattle.pm_market.specs.State.{SameOn}
use Rattle.pm_market.proofs.Loops.{same_tests}
use Rattle.pm_market.proofs.Tree.{leaf_node, leaf_of_leaf, leaf_of_itself}
use Rattle.pm_plan.specs.declared.node.Node.TheVariants.{Concentrator, Limited, Device}
use Rattle.pm_plan.specs.Plans.{PlanData, NodeData, node, is_device, limits_of, is_limited, group, node_numbers}
use Rattle.pm_plan.specs.Kept.{IsPlan}
use Rattle.pm_plan.specs.Auction.{part_in, sum_in, announcement, total, demand_in_cut}
use Rattle.pm_plan.specs.States.{state}
use Rattle.pm_plan.specs.Market.{plan_lists}
use Rattle.pm_plan.proofs.Auctions.{map_range_same}
use Rattle.pm_plan.proofs.MarketLists.{lawful, is_leaf-is}
use Rattle.pm_plan.proofs.Drafts.{limited_is_no_root}
use Rattle.pm_laws.proofs.Offers.{int_sum_same, int_sum_only}
use Rattle.pm_offer.specs.Offers.{device_demand, is_limited_at, own_part, limited_part, offer, children_sum}
use Rattle.pm_offer.proofs.Sums.{sum_zeros, none_where}
use Rattle.pm_offer.proofs.Above.{below_self, below_strict, below_parent, below_auctioneer, below_below, below_leaf}
use Rattle.pm_offer.proofs.GroupNodes.{nodes_are, parent_inside, group_kind, group_small, group_above, group_found, none_below, is_limited_below}
use Rattle.pm_offer.proofs.GroupNodes.{at_is_below, limited_has_none, group_of_limited}
use Rattle.pm_offer.proofs.Steps.{demand_is, demand_steps, no_demand, watts, no_watts, announced_watts, sum_steps, sum_in_at, announced_steps}
use Rattle.pm_offer.proofs.Steps.{total_steps, total_is, announced_sum, own_at, limited_at, own_below, limited_below, own_split, limited_split}
use Rattle.pm_offer.proofs.Steps.{offer_length, offer_at, children_length, children_is}

-- ---- a device

-- a device is no limited concentrator
limited_is_inner : (plan : PlanData) → IsPlan plan → (g : ℕ) → is_limited plan g ≡ true → is_leaf (plan_lists plan) g ≡ false
limited_is_inner plan is g h = is_leaf-is plan g ∙ sym (is.nodes.devices g) ∙ no_device (node plan g) h
  where
    no_device : (n : NodeData) → is_some (limits_of n) ≡ true → is_device n ≡ false
    no_device Concentrator e = refl
    no_device (Limited limits) e = refl
    no_device (Device planned) e = absurd (cc e)

leaf_inside : (plan : PlanData) → IsPlan plan → (d : ℕ) → IsLeaf (plan_lists plan) d → d ≤ length plan.nodes
leaf_inside plan is d leaf = subst (λ (n : ℕ). d ≤ n) (nodes_are plan is) (leaf_node (plan_lists plan) (lawful plan is) d leaf).1

-- no limited concentrator stands at or below a device
none_at_leaf : (plan : PlanData) → IsPlan plan → (d g : ℕ) → IsLeaf (plan_lists plan) d → g ≤ length plan.nodes → is_limited_at plan d g ≡ false
none_at_leaf plan is d g leaf inside = false_from_ne_true (is_limited_at plan d g)
    (λ h. let parts = and_parts (is_limited plan g) (is_below (plan_lists plan) d g) h in
    let same : g ≡ d = below_leaf (plan_lists plan) (lawful plan is) d leaf g (subst (λ (n : ℕ). g ≤ n) (sym (nodes_are plan is)) inside) parts.1 in
    both_ways (is_leaf (plan_lists plan) d) (ap (is_leaf (plan_lists plan)) (sym same) ∙ limited_is_inner plan is g parts.0) leaf)

-- the group of a node is a node
pub group_inside : (plan : PlanData) → IsPlan plan → (d : ℕ) → d ≤ length plan.nodes → group plan d ≤ length plan.nodes
group_inside plan is d inside = omega (arith, group_small plan is d inside, parent_inside plan is d inside)

device_at : (plan : PlanData) → IsPlan plan → (d : ℕ) (cut : Cut) (step : ℕ) → IsLeaf (plan_lists plan) d → step < plan.basis.steps →
    demand_at (offer plan d cut) step ≡ watts plan cut step d
device_at plan is d cut step leaf inside =
    let lists = plan_lists plan in
    let law = lawful plan is in
    let n : ℕ = length plan.nodes in
    let here : d ≤ n = leaf_inside plan is d leaf in
    let one : 1 ≤ d = (leaf_node lists law d leaf).0 in
    let own : int_sum_to n (own_at plan d cut step) ≡ watts plan cut step d =
    int_sum_only n (own_at plan d cut step) d one here
    (λ e other e_one e_le. cond-false (is_leaf_of lists d e && not (is_limited_at plan d (group plan e))) (watts plan cut step e) (pos 0)
    (false_from_ne_true _ (λ h. other (leaf_of_leaf lists law d e leaf (and_parts (is_leaf_of lists d e) (not (is_limited_at plan d (group plan e))) h).0))))
    ∙ cond-true (is_leaf_of lists d d && not (is_limited_at plan d (group plan d))) (watts plan cut step d) (pos 0)
    (and_from (is_leaf_of lists d d) (not (is_limited_at plan d (group plan d))) (leaf_of_itself lists law d leaf)
    (ap not (none_at_leaf plan is d (group plan d) leaf (group_inside plan is d here)))) in
    let lim : int_sum_to n (limited_at plan d cut step) ≡ pos 0 =
    sum_zeros n (limited_at plan d cut step)
    (λ g g_one g_le. cond-false (is_limited_at plan d g) (announced_watts plan cut step g) (pos 0) (none_at_leaf plan is d g leaf g_le)) in
    omega (arith, ints, offer_at plan is d cut step inside, own, lim)

-- the offer of a device is its demand after as many changes as the cut gives it
pub offer_device : (plan : PlanData) (d : ℕ) (cut : Cut) → IsPlan plan → IsLeaf (plan_lists plan) d → offer plan d cut ≡ device_demand plan d (cut d)
offer_device plan d cut is leaf =
    let long = offer_length plan is d cut in
    same_bids (offer plan d cut) (device_demand plan d (cut d)) (long ∙ sym (demand_steps plan is d (cut d)))
    (λ step h. device_at plan is d cut step leaf (subst (λ (n : ℕ). step < n) long h))

-- ---- the leaves alone

where_same : (b : Bool) (x y none : List ℤ) → (b ≡ true → x ≡ y) → cond b x none ≡ cond b y none
where_same true x y none h = h refl
where_same false x y none h = refl

own_alike : (plan : PlanData) (x : ℕ) (a b : Cut) → SameOn (plan_lists plan) x a b → (d : ℕ) → own_part plan x a d ≡ own_part plan x b d
unfolding own_part
own_alike plan x a b same d =
    where_same (is_leaf_of (plan_lists plan) x d && not (is_limited_at plan x (group plan d)))
    (device_demand plan d (a d)) (device_demand plan d (b d)) (zeros plan.basis.steps)
    (λ h. ap (device_demand plan d) (same d (and_parts (is_leaf_of (plan_lists plan) x d) (not (is_limited_at plan x (group plan d))) h).0))

-- a device of the group of a limited concentrator at or below x is a leaf of x
leaf_of_group : (plan : PlanData) → IsPlan plan → (x g d : ℕ) → d ≤ length plan.nodes → is_limited_at plan x g ≡ true → group plan d ≡ g →
    IsLeaf (plan_lists plan) d → IsLeafOf (plan_lists plan) x d
unfolding is_leaf_of
leaf_of_group plan is x g d inside at in_group leaf =
    let lists = plan_lists plan in
    let law = lawful plan is in
    let parts = and_parts (is_limited plan g) (is_below lists x g) at in
    let above : is_below lists g (parent lists d) ≡ true =
    subst (λ (h : ℕ). is_below lists h (parent lists d) ≡ true) in_group (group_above plan is d inside (ap (is_limited plan) in_group ∙ parts.0)) in
    and_from (is_leaf lists d) (is_below lists x d) leaf (below_below lists law x g d parts.1 (below_parent lists law g d above))

demand_alike : (plan : PlanData) → IsPlan plan → (x g : ℕ) (a b : Cut) → SameOn (plan_lists plan) x a b → (d : ℕ) → d ≤ length plan.nodes →
    is_limited_at plan x g ≡ true → group plan d ≡ g → device_demand plan d (a d) ≡ device_demand plan d (b d)
demand_alike plan is x g a b same d inside at in_group =
    elim (cases_Bool (is_leaf (plan_lists plan) d)) [
      | inl leaf ↦ ap (device_demand plan d) (same d (leaf_of_group plan is x g d inside at in_group leaf))
      | inr other ↦ no_demand plan is d (a d) other ∙ sym (no_demand plan is d (b d) other)
    ]

part_alike : (plan : PlanData) → IsPlan plan →
    (x g : ℕ) (a b : Cut) → SameOn (plan_lists plan) x a b → is_limited_at plan x g ≡ true → (d : ℕ) → d ≤ length plan.nodes →
    part_in plan (state plan) a g d ≡ part_in plan (state plan) b g d
unfolding part_in
part_alike plan is x g a b same at d inside =
    where_same (eqb (group plan d) g) (demand_in_cut plan (state plan) a d) (demand_in_cut plan (state plan) b d) (zeros plan.basis.steps)
    (λ h. demand_is plan a d ∙ demand_alike plan is x g a b same d inside at (eqb-true (group plan d) g h) ∙ sym (demand_is plan b d))

announced_alike : (plan : PlanData) → IsPlan plan → (x g : ℕ) (a b : Cut) → SameOn (plan_lists plan) x a b → is_limited_at plan x g ≡ true →
    announcement plan (state plan) a g ≡ announcement plan (state plan) b g
unfolding announcement sum_in
announced_alike plan is x g a b same at =
    ap (λ bids. within_limits (limits_of (node plan g)) (sum_of plan.basis.steps bids))
    (map_range_same (part_in plan (state plan) a g) (part_in plan (state plan) b g) 1 (length plan.nodes)
    (λ d low high. part_alike plan is x g a b same at d (omega arith)))

limited_alike : (plan : PlanData) → IsPlan plan → (x : ℕ) (a b : Cut) → SameOn (plan_lists plan) x a b →
    (g : ℕ) → limited_part plan x a g ≡ limited_part plan x b g
unfolding limited_part
limited_alike plan is x a b same g =
    where_same (is_limited_at plan x g) (announcement plan (state plan) a g) (announcement plan (state plan) b g) (zeros plan.basis.steps)
    (λ h. announced_alike plan is x g a b same h)

-- the offer of x is the same in two cuts that are the same on the leaves of x
pub offer_alike : (plan : PlanData) (x : ℕ) (a b : Cut) → IsPlan plan → SameOn (plan_lists plan) x a b → offer plan x a ≡ offer plan x b
unfolding offer
offer_alike plan x a b is same =
    ap (λ bids. pairwise_sum (sum_of plan.basis.steps bids) (sum_of plan.basis.steps (map (limited_part plan x a) (node_numbers plan))))
    (map_range_same (own_part plan x a) (own_part plan x b) 1 (length plan.nodes) (λ d low high. own_alike plan x a b same d))
    ∙ ap (λ bids. pairwise_sum (sum_of plan.basis.steps (map (own_part plan x b) (node_numbers plan))) (sum_of plan.basis.steps bids))
    (map_range_same (limited_part plan x a) (limited_part plan x b) 1 (length plan.nodes) (λ g low high. limited_alike plan is x a b same g))

-- ---- a concentrator without limits

leaf_split : (leaf a b kept : Bool) (v : ℤ) → (leaf ≡ true → a ≡ b) →
    cond a (cond (leaf && kept) v (pos 0)) (pos 0) ≡ cond b (cond (leaf && kept) v (pos 0)) (pos 0)
leaf_split true a b kept v h = ap (λ c. cond c (cond kept v (pos 0)) (pos 0)) (h refl)
leaf_split false a b kept v h = none_where a ∙ sym (none_where b)

-- a device stands at or below an inner node exactly where its parent does
leaf_below : (plan : PlanData) → IsPlan plan → (y d : ℕ) → IsInner (plan_lists plan) y → IsLeaf (plan_lists plan) d →
    is_below (plan_lists plan) y d ≡ is_below (plan_lists plan) y (parent (plan_lists plan) d)
leaf_below plan is y d inner leaf =
    let lists = plan_lists plan in
    same_tests (is_below lists y d) (is_below lists y (parent lists d))
    (λ h. below_strict lists (lawful plan is) y d h (λ e. both_ways (is_leaf lists y) inner (ap (is_leaf lists) e ∙ leaf)))
    (λ h. below_parent lists (lawful plan is) y d h)

own_is_below : (plan : PlanData) → IsPlan plan → (y : ℕ) (cut : Cut) (step d : ℕ) → IsInner (plan_lists plan) y → is_limited plan y ≡ false →
    own_at plan y cut step d ≡ own_below plan y cut step d
unfolding is_leaf_of
own_is_below plan is y cut step d inner free =
    let lists = plan_lists plan in
    own_split (is_leaf lists d) (is_below lists y d) (is_limited_at plan y (group plan d)) (is_limited_below plan y (group plan d)) (watts plan cut step d)
    (λ at. at_is_below plan is y (group plan d) free)
    ∙ leaf_split (is_leaf lists d) (is_below lists y d) (is_below lists y (parent lists d))
    (not (is_limited_below plan y (group plan d))) (watts plan cut step d)
    (λ leaf. leaf_below plan is y d inner leaf)

limited_is_below : (plan : PlanData) → IsPlan plan →
    (y : ℕ) (cut : Cut) (step g : ℕ) → is_limited plan y ≡ false → limited_at plan y cut step g ≡ limited_below plan y cut step g
limited_is_below plan is y cut step g free =
    ap (λ b. cond b (announced_watts plan cut step g) (pos 0)) (at_is_below plan is y g free)
    ∙ limited_split (is_limited plan g) (is_below (plan_lists plan) y (parent (plan_lists plan) g)) (announced_watts plan cut step g)

free_at : (plan : PlanData) → IsPlan plan → (y : ℕ) (cut : Cut) (step : ℕ) → IsInner (plan_lists plan) y → is_limited plan y ≡ false →
    step < plan.basis.steps →
    demand_at (offer plan y cut) step ≡ demand_at (children_sum plan y cut) step
free_at plan is y cut step inner free inside =
    let n : ℕ = length plan.nodes in
    let own = int_sum_same n (own_at plan y cut step) (own_below plan y cut step) (λ d one le. own_is_below plan is y cut step d inner free) in
    let lim = int_sum_same n (limited_at plan y cut step) (limited_below plan y cut step) (λ g one le. limited_is_below plan is y cut step g free) in
    omega (arith, ints, offer_at plan is y cut step inside, own, lim, children_is plan is y cut step inside)

offer_free : (plan : PlanData) → IsPlan plan →
    (y : ℕ) (cut : Cut) → IsInner (plan_lists plan) y → is_limited plan y ≡ false → offer plan y cut ≡ children_sum plan y cut
offer_free plan is y cut inner free =
    let long = offer_length plan is y cut in
    same_bids (offer plan y cut) (children_sum plan y cut) (long ∙ sym (children_length plan is y cut))
    (λ step h. free_at plan is y cut step inner free (subst (λ (n : ℕ). step < n) long h))

-- ---- a limited concentrator

own_none : (a at : Bool) (v : ℤ) → (a ≡ true → at ≡ true) → cond (a && not at) v (pos 0) ≡ pos 0
own_none true true v h = refl
own_none true false v h = absurd (cc (h refl))
own_none false at v h = refl

-- the devices below it add nothing themselves
own_at_limited : (plan : PlanData) → IsPlan plan →
    (y : ℕ) (cut : Cut) (step d : ℕ) → d ≤ length plan.nodes → IsInner (plan_lists plan) y → is_limited plan y ≡ true →
    own_at plan y cut step d ≡ pos 0
unfolding is_leaf_of
own_at_limited plan is y cut step d inside inner limited =
    let lists = plan_lists plan in
    own_none (is_leaf_of lists y d) (is_limited_at plan y (group plan d)) (watts plan cut step d)
    (λ h. let parts = and_parts (is_leaf lists d) (is_below lists y d) h in
    let found = group_found plan is y limited d inside (sym (leaf_below plan is y d inner parts.0) ∙ parts.1) in
    and_from (is_limited plan (group plan d)) (is_below lists y (group plan d)) found.limited found.below)

-- and it alone announces
alone_at_limited : (plan : PlanData) → IsPlan plan → (y : ℕ) (cut : Cut) (step : ℕ) → 1 ≤ y → y ≤ length plan.nodes →
    is_limited plan y ≡ true →
    int_sum_to (length plan.nodes) (limited_at plan y cut step) ≡ announced_watts plan cut step y
alone_at_limited plan is y cut step one inside limited =
    let lists = plan_lists plan in
    int_sum_only (length plan.nodes) (limited_at plan y cut step) y one inside
    (λ g other g_one g_le. cond-false (is_limited_at plan y g) (announced_watts plan cut step g) (pos 0)
    (false_from_ne_true (is_limited_at plan y g)
    (λ h. let parts = and_parts (is_limited plan g) (is_below lists y g) h in
    none_below plan is y g g_le limited parts.0 (below_strict lists (lawful plan is) y g parts.1 (λ e. other (sym e))))))
    ∙ cond-true (is_limited_at plan y y) (announced_watts plan cut step y) (pos 0)
    (and_from (is_limited plan y) (is_below lists y y) limited (below_self lists (lawful plan is) y))

offer_limited : (plan : PlanData) → IsPlan plan → (y : ℕ) (cut : Cut) → 1 ≤ y → y ≤ length plan.nodes → IsInner (plan_lists plan) y →
    is_limited plan y ≡ true →
    offer plan y cut ≡ announcement plan (state plan) cut y
offer_limited plan is y cut one inside inner limited =
    let long = offer_length plan is y cut in
    same_bids (offer plan y cut) (announcement plan (state plan) cut y) (long ∙ sym (announced_steps plan is cut y))
    (λ step h.
    let below : step < plan.basis.steps = subst (λ (n : ℕ). step < n) long h in
    let own = sum_zeros (length plan.nodes) (own_at plan y cut step) (λ d d_one d_le. own_at_limited plan is y cut step d d_le inner limited) in
    omega (arith, ints, offer_at plan is y cut step below, own, alone_at_limited plan is y cut step one inside limited))

-- a device of a group: it counts in the group's sum where it counts below
in_group : (leaf grouped below seen : Bool) (v : ℤ) → (leaf ≡ false → v ≡ pos 0) → grouped ≡ below → seen ≡ false →
    cond grouped v (pos 0) ≡ cond below (cond (leaf && not seen) v (pos 0)) (pos 0)
in_group true grouped below true v none e h = absurd (cc h)
in_group true grouped below false v none e h = ap (λ b. cond b v (pos 0)) e
in_group false grouped below seen v none e h = ap (λ w. cond grouped w (pos 0)) (none refl) ∙ none_where grouped ∙ sym (none_where below)

-- the sum of a limited concentrator's group is the sum of the offers of its children
pub limited_sum : (plan : PlanData) → IsPlan plan → (y : ℕ) (cut : Cut) → is_limited plan y ≡ true →
    sum_in plan (state plan) cut y ≡ children_sum plan y cut
limited_sum plan is y cut limited =
    let lists = plan_lists plan in
    let n : ℕ = length plan.nodes in
    let long = sum_steps plan is cut y in
    same_bids (sum_in plan (state plan) cut y) (children_sum plan y cut) (long ∙ sym (children_length plan is y cut))
    (λ step h.
    let below : step < plan.basis.steps = subst (λ (m : ℕ). step < m) long h in
    let own : int_sum_to n (λ d. cond (eqb (group plan d) y) (watts plan cut step d) (pos 0)) ≡ int_sum_to n (own_below plan y cut step) =
    int_sum_same n _ _
    (λ d one le. in_group (is_leaf lists d) (eqb (group plan d) y)
    (is_below lists y (parent lists d)) (is_limited_below plan y (group plan d)) (watts plan cut step d)
    (λ other. no_watts plan is cut step d other) (group_of_limited plan is y d le limited)
    (limited_has_none plan is y (group plan d) (group_inside plan is d le) limited)) in
    let lim : int_sum_to n (limited_below plan y cut step) ≡ pos 0 =
    sum_zeros n (limited_below plan y cut step)
    (λ g one le. sym (limited_split (is_limited plan g) (is_below lists y (parent lists g)) (announced_watts plan cut step g))
    ∙ cond-false (is_limited_below plan y g) (announced_watts plan cut step g) (pos 0) (limited_has_none plan is y g le limited)) in
    omega (arith, ints, sum_in_at plan is cut y step below, own, lim, children_is plan is y cut step below))

announced_children : (plan : PlanData) → IsPlan plan → (y : ℕ) (cut : Cut) → is_limited plan y ≡ true →
    announcement plan (state plan) cut y ≡ within_limits (limits_of (node plan y)) (children_sum plan y cut)
unfolding announcement
announced_children plan is y cut limited = ap (within_limits (limits_of (node plan y))) (limited_sum plan is y cut limited)

-- the offer of a concentrator is the sum of its children's offers, within its limits where it has some
pub offer_inner : (plan : PlanData) (c : ℕ) (cut : Cut) → IsPlan plan → IsConcentrator (plan_lists plan) c →
    offer plan c cut ≡ within_limits (limits_of (node plan c)) (children_sum plan c cut)
offer_inner plan c cut is inner = elim (cases_Bool (is_limited plan c)) [
  | inl limited ↦
      offer_limited plan is c cut inner.0 (subst (λ (n : ℕ). c ≤ n) (nodes_are plan is) inner.1) inner.2 limited
      ∙ announced_children plan is c cut limited
  | inr free ↦
      offer_free plan is c cut inner.2 free
      ∙ sym (ap (λ l. within_limits l (children_sum plan c cut)) (none_of (limits_of (node plan c)) free))
]

-- ---- the total

-- a device counts in the sum of the devices below no limited concentrator where no limited one stands above it
in_rest : (leaf grouped below seen : Bool) (v : ℤ) → (leaf ≡ false → v ≡ pos 0) → grouped ≡ not seen → below ≡ true →
    cond grouped v (pos 0) ≡ cond below (cond (leaf && not seen) v (pos 0)) (pos 0)
in_rest leaf grouped false seen v none e h = absurd (cc h)
in_rest true grouped true seen v none e h = ap (λ b. cond b v (pos 0)) e
in_rest false grouped true seen v none e h = ap (λ w. cond grouped w (pos 0)) (none refl) ∙ none_where grouped

no_group : (plan : PlanData) → IsPlan plan → (d : ℕ) → d ≤ length plan.nodes → eqb (group plan d) 0 ≡ not (is_limited_below plan 0 (group plan d))
no_group plan is d inside =
    let lists = plan_lists plan in
    let g : ℕ = group plan d in
    elim (group_kind plan is d inside) [
      | inl none ↦ eq-eqb g 0 none ∙ sym (ap (λ (h : ℕ). not (is_limited_below plan 0 h)) none)
      | inr limited ↦
          let low : 1 ≤ g = limited_is_no_root plan g limited in
          ne_eqb g 0 (λ e. omega arith)
          ∙ sym (ap not (and_from (is_limited plan g) (is_below lists 0 (parent lists g)) limited (below_auctioneer lists (lawful plan is) (parent lists g))))
    ]

-- the total of a cut is the sum of the offers of the auctioneer's children
pub offer_total : (plan : PlanData) (cut : Cut) → IsPlan plan → total plan (state plan) cut ≡ children_sum plan 0 cut
offer_total plan cut is =
    let lists = plan_lists plan in
    let law = lawful plan is in
    let n : ℕ = length plan.nodes in
    let long = total_steps plan is cut in
    same_bids (total plan (state plan) cut) (children_sum plan 0 cut) (long ∙ sym (children_length plan is 0 cut))
    (λ step h.
    let below : step < plan.basis.steps = subst (λ (m : ℕ). step < m) long h in
    let own : int_sum_to n (λ d. cond (eqb (group plan d) 0) (watts plan cut step d) (pos 0)) ≡ int_sum_to n (own_below plan 0 cut step) =
    int_sum_same n _ _
    (λ d one le. in_rest (is_leaf lists d) (eqb (group plan d) 0)
    (is_below lists 0 (parent lists d)) (is_limited_below plan 0 (group plan d)) (watts plan cut step d)
    (λ other. no_watts plan is cut step d other) (no_group plan is d le) (below_auctioneer lists law (parent lists d))) in
    let lim : int_sum_to n (λ g. cond (is_limited plan g) (announced_watts plan cut step g) (pos 0)) ≡ int_sum_to n (limited_below plan 0 cut step) =
    int_sum_same n _ _
    (λ g one le. sym (cond-true (is_below lists 0 (parent lists g))
    (cond (is_limited plan g) (announced_watts plan cut step g) (pos 0)) (pos 0) (below_auctioneer lists law (parent lists g)))) in
    omega (
      arith,
      ints,
      total_is plan is cut step below,
      announced_sum plan cut step,
      sum_in_at plan is cut 0 step below,
      own,
      lim,
      children_is plan is 0 cut step below,
    ))

-- The demands, the groups' sums and the offers at one step, as sums over the nodes.
use Rattle.std.proofs.Common.{Option, Some, None, ◌≡◌, ◌∙◌, sym, ap, subst, ℕ, ◌<◌, ◌≤◌, ℤ, pos, ◌+ℤ◌, Bool, true, false, cond}
use Rattle.std.proofs.Common.{eqb, inl, inr, List}
use Rattle.std.proofs.Common.{◌∷◌, length, map, take, refl, arith}
use Rattle.std.specs.Prelude.{◌&&◌, not}
use Rattle.std.proofs.Math.Seq.{take-nil}
use Rattle.std.proofs.lemmas.Bool.{cases_eq, cond-false, ne_eqb}
use Rattle.pm_base.specs.declared.limits.Limits.{Limits}
use Rattle.pm_base.specs.Cuts.{Cut}
use Rattle.pm_base.proofs.Bools.{chosen}
use Rattle.pm_bid.specs.Bids.{demand_at, zeros, sum_of, HaveSteps}
use Rattle.pm_bid.specs.Limited.{within_limits}
use Rattle.std.proofs.lemmas.List.Elements.{All-cons}
use Rattle.pm_bid.proofs.Sums.{zeros-at, Has, length-zeros, length-sum_of, sum_of-at, total_at}
use Rattle.pm_bid.proofs.EachStep.{pairwise_sum-at, length-added, length-clamped}
use Rattle.pm_tree.specs.Shape.{children_at, parent_at}
use Rattle.pm_tree.specs.Entries.{parents_of, children_of}
use Rattle.pm_market.specs.Lists.{nodes, parent, is_leaf, is_below, is_leaf_of}
use Rattle.pm_market.specs.Offers.{int_sum_to}
use Rattle.pm_plan.specs.declared.planned.Change.{Change}
use Rattle.pm_plan.specs.Devices.{is_member_after}
use Rattle.pm_plan.specs.Plans.{PlanData, node, limits_of, is_member, is_limited, group, node_numbers}
use Rattle.pm_plan.specs.Kept.{IsPlan}
use Rattle.pm_plan.specs.Auction.{demand_in_cut, part_in, sum_in, announcement, total, limited_nodes}
use Rattle.pm_plan.specs.States.{state}
use Rattle.pm_plan.specs.Market.{plan_lists}
use Rattle.pm_plan.proofs.DeviceNodes.{changes_of-none}
use Rattle.pm_plan.proofs.Fits.{bid-steps}
use Rattle.pm_plan.proofs.MarketLists.{lawful, is_leaf-is}
use Rattle.pm_laws.proofs.Offers.{int_sum_same, int_sum_add, int_sum_swap}
use Rattle.pm_offer.specs.Offers.{device_demand, is_limited_at, own_part, limited_part, offer, children_sum}
use Rattle.pm_offer.proofs.Sums.{sum_where, add_where, total_of_all, total_of_some, all_steps, demand_where}
use Rattle.pm_offer.proofs.Above.{at_one_child}
use Rattle.pm_offer.proofs.GroupNodes.{nodes_are, is_limited_below, child_same}

-- ---- the demand of a device

-- the demand in a cut, by the plan's own states, is that after as many changes as the cut gives the device
pub demand_is : (plan : PlanData) (cut : Cut) (d : ℕ) → demand_in_cut plan (state plan) cut d ≡ device_demand plan d (cut d)
unfolding demand_in_cut
demand_is plan cut d = refl

-- the demand of a node after any number of changes has as many steps as the basis
pub demand_steps : (plan : PlanData) → IsPlan plan → (d n : ℕ) → length (device_demand plan d n) ≡ plan.basis.steps
unfolding demand_in_cut
demand_steps plan is d n =
    chosen (λ (bid : List ℤ). length bid ≡ plan.basis.steps) (is_member plan d n) _ _
    (bid-steps plan (node plan d) (state plan d n) is) (length-zeros plan.basis.steps)

-- a node that is no device is no member after any number of changes
pub no_member : (plan : PlanData) → IsPlan plan → (d n : ℕ) → is_leaf (plan_lists plan) d ≡ false → is_member plan d n ≡ false
unfolding is_member
no_member plan is d n other =
    ap (λ (changes : List Change). is_member_after (take n changes)) (changes_of-none (node plan d) (is.nodes.devices d ∙ sym (is_leaf-is plan d) ∙ other))
    ∙ ap is_member_after (take-nil n)

-- a node that is no device has none
pub no_demand : (plan : PlanData) → IsPlan plan → (d n : ℕ) → is_leaf (plan_lists plan) d ≡ false →
    device_demand plan d n ≡ zeros plan.basis.steps
unfolding demand_in_cut
no_demand plan is d n other = cond-false {A = List ℤ} (is_member plan d n) _ (zeros plan.basis.steps) (no_member plan is d n other)

-- the demand at a step, in watts
abbrev pub watts : PlanData → Cut → ℕ → ℕ → ℤ
watts plan cut step d = demand_at (device_demand plan d (cut d)) step

-- a node that is no device has demand 0 at each step
pub no_watts : (plan : PlanData) → IsPlan plan → (cut : Cut) (step d : ℕ) → is_leaf (plan_lists plan) d ≡ false → watts plan cut step d ≡ pos 0
no_watts plan is cut step d other = ap (λ bid. demand_at bid step) (no_demand plan is d (cut d) other)
    ∙ zeros-at plan.basis.steps step

-- ---- the sum of a group, and what a limited concentrator announces

part_steps : (plan : PlanData) → IsPlan plan → (cut : Cut) (g d : ℕ) → length (part_in plan (state plan) cut g d) ≡ plan.basis.steps
unfolding part_in
part_steps plan is cut g d =
    chosen (λ (bid : List ℤ). length bid ≡ plan.basis.steps) (eqb (group plan d) g) _ _
    (ap (λ bid. length bid) (demand_is plan cut d) ∙ demand_steps plan is d (cut d)) (length-zeros plan.basis.steps)

-- the sum of a group has as many steps as the basis
pub sum_steps : (plan : PlanData) → IsPlan plan → (cut : Cut) (g : ℕ) → length (sum_in plan (state plan) cut g) ≡ plan.basis.steps
unfolding sum_in
sum_steps plan is cut g =
    length-sum_of plan.basis.steps _ (all_steps plan.basis.steps (part_in plan (state plan) cut g) (node_numbers plan) (part_steps plan is cut g))

part_at : (plan : PlanData) (cut : Cut) (g step d : ℕ) →
    demand_at (part_in plan (state plan) cut g d) step ≡ cond (eqb (group plan d) g) (watts plan cut step d) (pos 0)
unfolding part_in
part_at plan cut g step d =
    demand_where (eqb (group plan d) g) (demand_in_cut plan (state plan) cut d) plan.basis.steps step
    ∙ ap (λ bid. cond (eqb (group plan d) g) (demand_at bid step) (pos 0)) (demand_is plan cut d)

-- at a step the sum of group g is that of the watts of the nodes whose group is g
pub sum_in_at : (plan : PlanData) → IsPlan plan → (cut : Cut) (g step : ℕ) → step < plan.basis.steps →
    demand_at (sum_in plan (state plan) cut g) step ≡ int_sum_to (length plan.nodes) (λ d. cond (eqb (group plan d) g) (watts plan cut step d) (pos 0))
unfolding sum_in
sum_in_at plan is cut g step inside =
    sum_of-at plan.basis.steps _ step (all_steps plan.basis.steps (part_in plan (state plan) cut g) (node_numbers plan) (part_steps plan is cut g)) inside
    ∙ total_of_all (part_in plan (state plan) cut g) (length plan.nodes) step
    ∙ int_sum_same (length plan.nodes) _ _ (λ d one le. part_at plan cut g step d)

-- limits leave the number of steps
limits_steps : (steps : ℕ) (l : Option Limits) (bid : List ℤ) → length bid ≡ steps → length (within_limits l bid) ≡ steps
limits_steps steps None bid same = same
limits_steps steps (Some l) bid same = length-clamped l.floor l.ceiling bid ∙ same

-- what a limited concentrator announces has as many steps as the basis
pub announced_steps : (plan : PlanData) → IsPlan plan → (cut : Cut) (g : ℕ) → length (announcement plan (state plan) cut g) ≡ plan.basis.steps
unfolding announcement
announced_steps plan is cut g = limits_steps plan.basis.steps (limits_of (node plan g)) (sum_in plan (state plan) cut g) (sum_steps plan is cut g)

-- what a limited concentrator announces at a step, in watts
abbrev pub announced_watts : PlanData → Cut → ℕ → ℕ → ℤ
announced_watts plan cut step g = demand_at (announcement plan (state plan) cut g) step

-- ---- the total

-- what is added up to the total
abbrev all_sums : PlanData → Cut → List (List ℤ)
all_sums plan cut = sum_in plan (state plan) cut 0 ∷ map (announcement plan (state plan) cut) (limited_nodes plan)

total_fits : (plan : PlanData) → IsPlan plan → (cut : Cut) → HaveSteps plan.basis.steps (all_sums plan cut)
total_fits plan is cut =
    All-cons (Has plan.basis.steps) (sum_in plan (state plan) cut 0) (map (announcement plan (state plan) cut) (limited_nodes plan))
    (sum_steps plan is cut 0) (all_steps plan.basis.steps (announcement plan (state plan) cut) (limited_nodes plan) (announced_steps plan is cut))

-- the total of a cut has as many steps as the basis
pub total_steps : (plan : PlanData) → IsPlan plan → (cut : Cut) → length (total plan (state plan) cut) ≡ plan.basis.steps
unfolding total
total_steps plan is cut = length-sum_of plan.basis.steps (all_sums plan cut) (total_fits plan is cut)

-- at a step the total is the sum of group 0 and the sum of what the limited concentrators announce
pub total_is : (plan : PlanData) → IsPlan plan → (cut : Cut) (step : ℕ) → step < plan.basis.steps →
    demand_at (total plan (state plan) cut) step
    ≡ demand_at (sum_in plan (state plan) cut 0) step +ℤ total_at (map (announcement plan (state plan) cut) (limited_nodes plan)) step
unfolding total
total_is plan is cut step inside = sum_of-at plan.basis.steps (all_sums plan cut) step (total_fits plan is cut) inside

-- what all limited concentrators announce at a step, as a sum over the nodes with 0 for any other node
pub announced_sum : (plan : PlanData) (cut : Cut) (step : ℕ) →
    total_at (map (announcement plan (state plan) cut) (limited_nodes plan)) step
    ≡ int_sum_to (length plan.nodes) (λ g. cond (is_limited plan g) (announced_watts plan cut step g) (pos 0))
announced_sum plan cut step = total_of_some (announcement plan (state plan) cut) (is_limited plan) (length plan.nodes) step

-- ---- an offer

own_steps : (plan : PlanData) → IsPlan plan → (x : ℕ) (cut : Cut) (d : ℕ) → length (own_part plan x cut d) ≡ plan.basis.steps
unfolding own_part
own_steps plan is x cut d =
    chosen (λ (bid : List ℤ). length bid ≡ plan.basis.steps) (is_leaf_of (plan_lists plan) x d && not (is_limited_at plan x (group plan d))) _ _
    (demand_steps plan is d (cut d)) (length-zeros plan.basis.steps)

limited_steps : (plan : PlanData) → IsPlan plan → (x : ℕ) (cut : Cut) (g : ℕ) → length (limited_part plan x cut g) ≡ plan.basis.steps
unfolding limited_part
limited_steps plan is x cut g =
    chosen (λ (bid : List ℤ). length bid ≡ plan.basis.steps) (is_limited_at plan x g) _ _ (announced_steps plan is cut g) (length-zeros plan.basis.steps)

own_length : (plan : PlanData) → IsPlan plan →
    (x : ℕ) (cut : Cut) → length (sum_of plan.basis.steps (map (own_part plan x cut) (node_numbers plan))) ≡ plan.basis.steps
own_length plan is x cut = length-sum_of plan.basis.steps _ (all_steps plan.basis.steps (own_part plan x cut) (node_numbers plan) (own_steps plan is x cut))

limited_length : (plan : PlanData) → IsPlan plan →
    (x : ℕ) (cut : Cut) → length (sum_of plan.basis.steps (map (limited_part plan x cut) (node_numbers plan))) ≡ plan.basis.steps
limited_length plan is x cut =
    length-sum_of plan.basis.steps _ (all_steps plan.basis.steps (limited_part plan x cut) (node_numbers plan) (limited_steps plan is x cut))

-- an offer has as many steps as the basis
pub offer_length : (plan : PlanData) → IsPlan plan → (x : ℕ) (cut : Cut) → length (offer plan x cut) ≡ plan.basis.steps
unfolding offer
offer_length plan is x cut =
    length-added _ _ (own_length plan is x cut ∙ sym (limited_length plan is x cut)) ∙ own_length plan is x cut

-- what a device and a limited concentrator add at a step
abbrev pub own_at : PlanData → ℕ → Cut → ℕ → ℕ → ℤ
own_at plan x cut step d = cond (is_leaf_of (plan_lists plan) x d && not (is_limited_at plan x (group plan d))) (watts plan cut step d) (pos 0)

-- what g adds to the offer of x at a step: what it announces, where it is limited and at or below x
abbrev pub limited_at : PlanData → ℕ → Cut → ℕ → ℕ → ℤ
limited_at plan x cut step g = cond (is_limited_at plan x g) (announced_watts plan cut step g) (pos 0)

own_part_at : (plan : PlanData) (x : ℕ) (cut : Cut) (step d : ℕ) → demand_at (own_part plan x cut d) step ≡ own_at plan x cut step d
unfolding own_part
own_part_at plan x cut step d =
    demand_where (is_leaf_of (plan_lists plan) x d && not (is_limited_at plan x (group plan d))) (device_demand plan d (cut d)) plan.basis.steps step

limited_part_at : (plan : PlanData) (x : ℕ) (cut : Cut) (step g : ℕ) → demand_at (limited_part plan x cut g) step ≡ limited_at plan x cut step g
unfolding limited_part
limited_part_at plan x cut step g = demand_where (is_limited_at plan x g) (announcement plan (state plan) cut g) plan.basis.steps step

-- at a step the offer of x is what devices add themselves and what limited concentrators add, summed
pub offer_at : (plan : PlanData) → IsPlan plan → (x : ℕ) (cut : Cut) (step : ℕ) → step < plan.basis.steps →
    demand_at (offer plan x cut) step ≡ int_sum_to (length plan.nodes) (own_at plan x cut step) +ℤ int_sum_to (length plan.nodes)
    (limited_at plan x cut step)
unfolding offer
offer_at plan is x cut step inside =
    let own = sum_of plan.basis.steps (map (own_part plan x cut) (node_numbers plan)) in
    let lim = sum_of plan.basis.steps (map (limited_part plan x cut) (node_numbers plan)) in
    let own_long = own_length plan is x cut in
    let lim_long = limited_length plan is x cut in
    pairwise_sum-at own lim step (omega arith) (own_long ∙ sym lim_long)
    ∙ ap (λ z. z +ℤ demand_at lim step)
    (sum_of-at plan.basis.steps _ step (all_steps plan.basis.steps (own_part plan x cut) (node_numbers plan) (own_steps plan is x cut)) inside
    ∙ total_of_all (own_part plan x cut) (length plan.nodes) step
    ∙ int_sum_same (length plan.nodes) _ (own_at plan x cut step) (λ d one le. own_part_at plan x cut step d))
    ∙ ap (λ z. int_sum_to (length plan.nodes) (own_at plan x cut step) +ℤ z)
    (sum_of-at plan.basis.steps _ step (all_steps plan.basis.steps (limited_part plan x cut) (node_numbers plan) (limited_steps plan is x cut)) inside
    ∙ total_of_all (limited_part plan x cut) (length plan.nodes) step
    ∙ int_sum_same (length plan.nodes) _ (limited_at plan x cut step) (λ g one le. limited_part_at plan x cut step g))

-- ---- the sum of the children

-- the sum of the offers of the children of a node has as many steps as the basis
pub children_length : (plan : PlanData) → IsPlan plan → (y : ℕ) (cut : Cut) → length (children_sum plan y cut) ≡ plan.basis.steps
children_length plan is y cut =
    length-sum_of plan.basis.steps _ (all_steps plan.basis.steps (λ x. offer plan x cut) (children_of plan.entries y) (λ x. offer_length plan is x cut))

children_each : (plan : PlanData) → IsPlan plan → (y : ℕ) (cut : Cut) (step : ℕ) → step < plan.basis.steps →
    demand_at (children_sum plan y cut) step
    ≡ int_sum_to (nodes (plan_lists plan)) (λ x. cond (eqb (parent (plan_lists plan) x) y) (demand_at (offer plan x cut) step) (pos 0))
unfolding children_at parent
children_each plan is y cut step inside =
    sum_of-at plan.basis.steps _ step (all_steps plan.basis.steps (λ x. offer plan x cut) (children_of plan.entries y)
    (λ x. offer_length plan is x cut)) inside
    ∙ total_of_some (λ x. offer plan x cut) (λ x. eqb (parent_at (parents_of plan.entries) x) y) (length (parents_of plan.entries)) step

-- what a device, and a limited concentrator, below y adds at a step to the offers of the children of y
abbrev pub own_below : PlanData → ℕ → Cut → ℕ → ℕ → ℤ
own_below plan y cut step d =
    cond (is_below (plan_lists plan) y (parent (plan_lists plan) d))
    (cond (is_leaf (plan_lists plan) d && not (is_limited_below plan y (group plan d))) (watts plan cut step d) (pos 0)) (pos 0)

-- what g adds at a step to the offers of y's children: what it announces, where it is limited and below y
abbrev pub limited_below : PlanData → ℕ → Cut → ℕ → ℕ → ℤ
limited_below plan y cut step g =
    cond (is_below (plan_lists plan) y (parent (plan_lists plan) g)) (cond (is_limited plan g) (announced_watts plan cut step g) (pos 0)) (pos 0)

-- tests of leaf, below and not at choose as below, then leaf and not seen, if at is seen where below holds
pub own_split : (leaf below at seen : Bool) (v : ℤ) → (below ≡ true → at ≡ seen) →
    cond ((leaf && below) && not at) v (pos 0) ≡ cond below (cond (leaf && not seen) v (pos 0)) (pos 0)
own_split true true at seen v h = ap (λ b. cond (not b) v (pos 0)) (h refl)
own_split true false at seen v h = refl
own_split false true at seen v h = refl
own_split false false at seen v h = refl

-- tests of limited and below together choose as below first, then limited
pub limited_split : (limited' below : Bool) (v : ℤ) → cond (limited' && below) v (pos 0) ≡ cond below (cond limited' v (pos 0)) (pos 0)
limited_split true true v = refl
limited_split true false v = refl
limited_split false true v = refl
limited_split false false v = refl

-- at a child of y, and nowhere else
at_child : (x y : ℕ) (u v : ℤ) → (x ≡ y → u ≡ v) → cond (eqb x y) u (pos 0) ≡ cond (eqb x y) v (pos 0)
at_child x y u v h = elim (cases_eq x y) [
  | inl same ↦ ap (λ w. cond (eqb x y) w (pos 0)) (h same)
  | inr other ↦ cond-false (eqb x y) u (pos 0) (ne_eqb x y other) ∙ sym (cond-false (eqb x y) v (pos 0) (ne_eqb x y other))
]

own_of_child : (plan : PlanData) → IsPlan plan → (y : ℕ) (cut : Cut) (step x d : ℕ) → 1 ≤ x → d ≤ length plan.nodes →
    parent (plan_lists plan) x ≡ y →
    own_at plan x cut step d
    ≡ cond (is_below (plan_lists plan) x d)
    (cond (is_leaf (plan_lists plan) d && not (is_limited_below plan y (group plan d))) (watts plan cut step d) (pos 0)) (pos 0)
unfolding is_leaf_of
own_of_child plan is y cut step x d one inside up =
    own_split (is_leaf (plan_lists plan) d) (is_below (plan_lists plan) x d)
    (is_limited_at plan x (group plan d)) (is_limited_below plan y (group plan d)) (watts plan cut step d)
    (λ at. child_same plan is x d one inside at ∙ ap (λ (w : ℕ). is_limited_below plan w (group plan d)) up)

own_children : (plan : PlanData) → IsPlan plan → (y : ℕ) (cut : Cut) (step d : ℕ) → 1 ≤ d → d ≤ length plan.nodes →
    int_sum_to (nodes (plan_lists plan)) (λ x. cond (eqb (parent (plan_lists plan) x) y) (own_at plan x cut step d) (pos 0)) ≡ own_below plan y cut step d
own_children plan is y cut step d d_one d_le =
    let lists = plan_lists plan in
    let v : ℤ = cond (is_leaf lists d && not (is_limited_below plan y (group plan d))) (watts plan cut step d) (pos 0) in
    int_sum_same (nodes lists) (λ x. cond (eqb (parent lists x) y) (own_at plan x cut step d) (pos 0))
    (λ x. cond (eqb (parent lists x) y) (cond (is_below lists x d) v (pos 0)) (pos 0))
    (λ x one le. at_child (parent lists x) y (own_at plan x cut step d) (cond (is_below lists x d) v (pos 0)) (own_of_child plan is y cut step x d one d_le))
    ∙ at_one_child lists (lawful plan is) y v d (d_one, subst (λ (n : ℕ). d ≤ n) (sym (nodes_are plan is)) d_le)

limited_children : (plan : PlanData) → IsPlan plan → (y : ℕ) (cut : Cut) (step g : ℕ) → 1 ≤ g → g ≤ length plan.nodes →
    int_sum_to (nodes (plan_lists plan)) (λ x. cond (eqb (parent (plan_lists plan) x) y) (limited_at plan x cut step g) (pos 0))
    ≡ limited_below plan y cut step g
limited_children plan is y cut step g g_one g_le =
    let lists = plan_lists plan in
    let v : ℤ = cond (is_limited plan g) (announced_watts plan cut step g) (pos 0) in
    int_sum_same (nodes lists) (λ x. cond (eqb (parent lists x) y) (limited_at plan x cut step g) (pos 0))
    (λ x. cond (eqb (parent lists x) y) (cond (is_below lists x g) v (pos 0)) (pos 0))
    (λ x one le. ap (λ (w : ℤ). cond (eqb (parent lists x) y) w (pos 0))
    (limited_split (is_limited plan g) (is_below lists x g) (announced_watts plan cut step g)))
    ∙ at_one_child lists (lawful plan is) y v g (g_one, subst (λ (n : ℕ). g ≤ n) (sym (nodes_are plan is)) g_le)

-- a sum over the children, each of which adds up over the nodes
each_child : (m n : ℕ) (child : ℕ → Bool) (f g : ℕ → ℕ → ℤ) (own lim : ℕ → ℤ) →
    ((d : ℕ) → 1 ≤ d → d ≤ n → int_sum_to m (λ x. cond (child x) (f x d) (pos 0)) ≡ own d) →
    ((d : ℕ) → 1 ≤ d → d ≤ n → int_sum_to m (λ x. cond (child x) (g x d) (pos 0)) ≡ lim d) →
    int_sum_to m (λ x. cond (child x) (int_sum_to n (f x) +ℤ int_sum_to n (g x)) (pos 0)) ≡ int_sum_to n own +ℤ int_sum_to n lim
each_child m n child f g own lim h k =
    let own_each : ℕ → ℤ = λ x. int_sum_to n (λ d. cond (child x) (f x d) (pos 0)) in
    let lim_each : ℕ → ℤ = λ x. int_sum_to n (λ d. cond (child x) (g x d) (pos 0)) in
    int_sum_same m (λ x. cond (child x) (int_sum_to n (f x) +ℤ int_sum_to n (g x)) (pos 0)) (λ x. own_each x +ℤ lim_each x)
    (λ x one le. add_where (child x) (int_sum_to n (f x)) (int_sum_to n (g x))
    ∙ ap (λ (w : ℤ). w +ℤ cond (child x) (int_sum_to n (g x)) (pos 0)) (sum_where (child x) n (f x))
    ∙ ap (λ (w : ℤ). own_each x +ℤ w) (sum_where (child x) n (g x)))
    ∙ int_sum_add m own_each lim_each
    ∙ ap (λ (w : ℤ). w +ℤ int_sum_to m lim_each) (int_sum_swap m n (λ x d. cond (child x) (f x d) (pos 0)) ∙ int_sum_same n _ own h)
    ∙ ap (λ (w : ℤ). int_sum_to n own +ℤ w) (int_sum_swap m n (λ x d. cond (child x) (g x d) (pos 0)) ∙ int_sum_same n _ lim k)

-- the offers of the children of y at a step: what the devices and the limited concentrators below y add
pub children_is : (plan : PlanData) → IsPlan plan → (y : ℕ) (cut : Cut) (step : ℕ) → step < plan.basis.steps →
    demand_at (children_sum plan y cut) step
    ≡ int_sum_to (length plan.nodes) (own_below plan y cut step) +ℤ int_sum_to (length plan.nodes) (limited_below plan y cut step)
children_is plan is y cut step inside =
    let lists = plan_lists plan in
    children_each plan is y cut step inside
    ∙ int_sum_same (nodes lists) (λ x. cond (eqb (parent lists x) y) (demand_at (offer plan x cut) step) (pos 0))
    (λ x. cond (eqb (parent lists x) y)
    (int_sum_to (length plan.nodes) (own_at plan x cut step) +ℤ int_sum_to (length plan.nodes) (limited_at plan x cut step)) (pos 0))
    (λ x one le. ap (λ (w : ℤ). cond (eqb (parent lists x) y) w (pos 0)) (offer_at plan is x cut step inside))
    ∙ each_child (nodes lists) (length plan.nodes) (λ x. eqb (parent lists x) y) (λ x. own_at plan x cut step) (λ x. limited_at plan x cut step)
    (own_below plan y cut step) (limited_below plan y cut step)
    (λ d one le. own_children plan is y cut step d one le) (λ g one le. limited_children plan is y cut step g one le)

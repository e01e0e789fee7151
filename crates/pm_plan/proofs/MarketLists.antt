-- The lists of the market of cuts that a plan stands for are lawful, and say the same of the plan.
use Rattle.std.proofs.Common.{◌≡◌, ◌∙◌, sym, ap, ℕ, zero, suc, ◌+◌, ◌*◌, ◌<◌, ◌≤◌, Bool, true, false, List, [], length, map}
use Rattle.std.proofs.Common.{Some, take, get_or, cond, refl, arith, add-one}
use Rattle.std.specs.Prelude.{◌&&◌, not, nat_lt}
use Rattle.std.specs.List.{count_by, sum_by}
use Rattle.std.proofs.lemmas.Bool.Decides.{nat_tests}
use Rattle.std.proofs.lemmas.List.{take_all}
use Rattle.std.proofs.lemmas.List.Sums.{sum_by_more, sum_by-cons}
use Rattle.std.proofs.lemmas.List.FromFn.{get_or-map-range_with_len, length-map-range_with_len}
use Rattle.pm_base.proofs.Numbers.{suc_is_not_zero}
use Rattle.pm_tree.specs.Shape.{parent_at, leaf_at, concentrator_at, path_within, path_at, depth_at}
use Rattle.pm_tree.specs.Entries.{parents_of, leaves_of, children_of, place_of}
use Rattle.pm_market.specs.Lists.{Lawful, nodes, parent, is_leaf, is_member, changes, IsNode, IsLeaf, path_depth_in, path_depth}
use Rattle.pm_market.specs.Lists as market
use Rattle.pm_market.specs.State.{sum_to}
use Rattle.pm_market.specs.Bound as market_bound
use Rattle.pm_plan.specs.declared.node.Node.TheVariants.{Concentrator}
use Rattle.pm_plan.specs.Plans.{PlanData, NodeData, node, limits_of, changes_of, phases, change_count, all_changes, plan_bound, end_cut, node_numbers}
use Rattle.pm_plan.specs.Plans as plans
use Rattle.pm_plan.specs.Kept.{InPhases, IsPlan}
use Rattle.pm_plan.specs.Market.{members_of, plan_lists}
use Rattle.pm_plan.proofs.Leaves.{first_of, last_of}
use Rattle.pm_plan.proofs.DeviceNodes.{changes_of-none, limits_of-tells}
use Rattle.pm_tree.proofs.Named.{length-parents_of}
use Rattle.pm_tree.proofs.Places.{child_entry}
use Rattle.pm_base.specs.Limits.{AreLimits}
use Rattle.pm_base.specs.declared.limits.Limits.{Limits}
use Rattle.pm_plan.proofs.Ends.{end-none, end-rises, end-last}

-- in the market's lists of a plan a node has the same parent as in the plan
pub parent-is : (plan : PlanData) (x : ℕ) → parent (plan_lists plan) x ≡ plans.parent plan x
unfolding parent
parent-is plan x = refl

-- in the market's lists of a plan a node is a leaf exactly where it is one in the plan
pub is_leaf-is : (plan : PlanData) (x : ℕ) → is_leaf (plan_lists plan) x ≡ plans.is_leaf plan x
unfolding is_leaf
is_leaf-is plan x = refl

-- a plan has as many entries as its lists have nodes
pub nodes_are : (plan : PlanData) → length plan.entries ≡ nodes (plan_lists plan)
nodes_are plan = sym (length-parents_of plan.entries)

-- a device of the market is one of the plan
pub leaf_of_plan : (plan : PlanData) (d : ℕ) → IsLeaf (plan_lists plan) d → plans.is_leaf plan d ≡ true
leaf_of_plan plan d leaf = sym (is_leaf-is plan d) ∙ leaf

-- in the market's lists of a plan a planned node has as many changes as in the plan
pub changes-is : (plan : PlanData) (d : ℕ) → 1 ≤ d → d ≤ length plan.nodes → changes (plan_lists plan) d ≡ change_count plan d
unfolding changes
changes-is plan zero low high = absurd (omega arith)
changes-is plan (suc d) low high =
    ap (λ l. length l) (get_or-map-range_with_len (members_of plan) 1 (length plan.nodes) d (suc d) [] (omega arith) (omega arith))
    ∙ length-map-range_with_len (plans.is_member plan (suc d)) 1 (change_count plan (suc d))

-- in the market's lists a planned node is a member after n of its changes exactly where it is in the plan
pub is_member-is : (plan : PlanData) (d n : ℕ) → 1 ≤ d → d ≤ length plan.nodes → n ≤ change_count plan d →
    is_member (plan_lists plan) d n ≡ plans.is_member plan d n
unfolding is_member plans.is_member
is_member-is plan zero n low high within = absurd (omega arith)
is_member-is plan (suc d) zero low high within = refl
is_member-is plan (suc d) (suc n) low high within =
    ap (λ l. get_or l n false) (get_or-map-range_with_len (members_of plan) 1 (length plan.nodes) d (suc d) [] (omega arith) (omega arith))
    ∙ get_or-map-range_with_len (plans.is_member plan (suc d)) 1 (change_count plan (suc d)) n (suc n) false (omega arith) (omega arith)

-- the market's lists of a plan have as many phases as the plan
pub phases-is : (plan : PlanData) → market.phases (plan_lists plan) ≡ phases plan
phases-is plan = length-map-range_with_len _ 1 (phases plan)

-- in the market's lists a planned node has as many changes at a phase's end as in the plan
pub end-is : (plan : PlanData) (p d : ℕ) → 1 ≤ d → d ≤ length plan.nodes → p ≤ phases plan → InPhases plan →
    market.end_count (plan_lists plan) p d ≡ end_cut plan p d
unfolding market.end_count
end-is plan p zero low high within fits = absurd (omega arith)
end-is plan zero (suc d) low high within fits = sym (end-none plan (suc d) fits)
end-is plan (suc p) (suc d) low high within fits =
    ap (λ l. get_or l d 0) (get_or-map-range_with_len (λ q. map (end_cut plan q) (node_numbers plan)) 1 (phases plan) p (suc p) []
    (omega arith) (omega arith))
    ∙ get_or-map-range_with_len (end_cut plan (suc p)) 1 (length plan.nodes) d (suc d) 0 (omega arith) (omega arith)

-- a device of the lists is a planned node
leaf_first : (plan : PlanData) (d : ℕ) → IsPlan plan → IsLeaf (plan_lists plan) d → 1 ≤ d
leaf_first plan d is leaf = first_of plan d is (sym (is_leaf-is plan d) ∙ leaf)

leaf_last : (plan : PlanData) (d : ℕ) → IsPlan plan → IsLeaf (plan_lists plan) d → d ≤ length plan.nodes
leaf_last plan d is leaf = last_of plan d is (sym (is_leaf-is plan d) ∙ leaf)

rises_at : (plan : PlanData) (p d : ℕ) → IsPlan plan → IsLeaf (plan_lists plan) d → p < phases plan →
    market.end_count (plan_lists plan) p d ≤ market.end_count (plan_lists plan) (p + 1) d
rises_at plan p d is leaf below =
    let low = leaf_first plan d is leaf in
    let high = leaf_last plan d is leaf in
    let here = end-is plan p d low high (omega arith) is.in_phases in
    let next = end-is plan (p + 1) d low high (omega arith) is.in_phases in
    omega (arith, here, next, end-rises plan p (p + 1) d (omega arith))

last_at : (plan : PlanData) (d : ℕ) → IsPlan plan → IsLeaf (plan_lists plan) d →
    market.end_count (plan_lists plan) (market.phases (plan_lists plan)) d ≡ changes (plan_lists plan) d
last_at plan d is leaf =
    let low = leaf_first plan d is leaf in
    let high = leaf_last plan d is leaf in
    ap (λ p. market.end_count (plan_lists plan) p d) (phases-is plan)
    ∙ end-is plan (phases plan) d low high (omega arith) is.in_phases ∙ end-last plan d is.in_phases ∙ sym (changes-is plan d low high)

above_zero : (x : ℕ) → nat_lt 0 (suc x) ≡ true
above_zero x = grind (arith, nat_tests)

counted_one : (above leaf : Bool) (n : ℕ) → above ≡ true → cond leaf 0 1 + n ≡ cond (above && not leaf) 1 0 + n
counted_one true true n h = refl
counted_one true false n h = refl
counted_one false leaf n h = absurd (cc h)

path_depth_in-is : (plan : PlanData) (levels x : ℕ) →
    path_depth_in (plan_lists plan) levels x ≡ count_by (concentrator_at (leaves_of plan.entries)) (path_within levels (parents_of plan.entries) x)
unfolding path_depth_in is_leaf parent
path_depth_in-is plan zero x = refl
path_depth_in-is plan (suc levels) zero = refl
path_depth_in-is plan (suc levels) (suc x) =
    let up = parent_at (parents_of plan.entries) (suc x) in
    let rest = path_within levels (parents_of plan.entries) up in
    let leaf = leaf_at (leaves_of plan.entries) (suc x) in
    rw (suc_is_not_zero x)
    (ap (λ n. cond leaf 0 1 + n) (path_depth_in-is plan levels up)
    ∙ counted_one (nat_lt 0 (suc x)) leaf (count_by (concentrator_at (leaves_of plan.entries)) rest) (above_zero x)
    ∙ sym (sum_by-cons (λ y. cond (concentrator_at (leaves_of plan.entries) y) 1 0) (suc x) rest))

-- in the market's lists a node has the same depth as in the plan's tree
pub depth-is : (plan : PlanData) (x : ℕ) → path_depth (plan_lists plan) x ≡ depth_at (parents_of plan.entries) (leaves_of plan.entries) x
unfolding path_depth depth_at path_at
depth-is plan x = path_depth_in-is plan x x

inner_at : (plan : PlanData) (x : ℕ) → IsPlan plan → IsNode (plan_lists plan) x → is_leaf (plan_lists plan) (parent (plan_lists plan) x) ≡ false
unfolding is_leaf parent
inner_at plan x is h = is.tree.under_no_leaf x h.1

earlier_at : (plan : PlanData) (x : ℕ) → IsPlan plan → IsNode (plan_lists plan) x → parent (plan_lists plan) x < x
unfolding parent
earlier_at plan x is h = is.tree.earlier x h.0 h.1

-- the market's lists of a plan are lawful
pub lawful : (plan : PlanData) → IsPlan plan → Lawful (plan_lists plan)
lawful plan is = record {
  leaves = is.tree.one_each;
  earlier = λ x h. earlier_at plan x is h;
  inner = λ x h. inner_at plan x is h;
  depth = λ x h. omega (arith, depth-is plan x, is.tree.shallow x h.1);
  ends_rise = λ p d leaf below. rises_at plan p d is leaf
      (omega (arith, length-map-range_with_len (λ q. map (end_cut plan q) (node_numbers plan)) 1 (phases plan)));
  ends_last = λ d leaf. last_at plan d is leaf;
}

-- the changes of one node, which has none where it is no leaf
changes_of_node : (plan : PlanData) (d : ℕ) (leaf : Bool) → IsPlan plan → 1 ≤ d → d ≤ length plan.nodes →
    is_leaf (plan_lists plan) d ≡ leaf → cond leaf (changes (plan_lists plan) d) 0 ≡ change_count plan d
changes_of_node plan d true is low high here = changes-is plan d low high
changes_of_node plan d false is low high here =
    sym (ap (λ l. length l) (changes_of-none (node plan d) (is.nodes.devices d ∙ sym (is_leaf-is plan d) ∙ here)))

changes_to : (plan : PlanData) (k : ℕ) → IsPlan plan → k ≤ length plan.nodes →
    sum_to k (λ d. cond (is_leaf (plan_lists plan) d) (changes (plan_lists plan) d) 0)
    ≡ sum_by (λ (n : NodeData). length (changes_of n)) (take k plan.nodes)
unfolding sum_to
changes_to plan zero is within = refl
changes_to plan (suc k) is within =
    let one = changes_of_node plan (suc k) (is_leaf (plan_lists plan) (suc k)) is (omega arith) within refl in
    let before = changes_to plan k is (omega arith) in
    let more = sum_by_more (λ (n : NodeData). length (changes_of n)) plan.nodes k Concentrator (omega arith) in
    let here : sum_by (λ (n : NodeData). length (changes_of n)) (take (suc k) plan.nodes)
    ≡ sum_by (λ (n : NodeData). length (changes_of n)) (take (k + 1) plan.nodes) =
    ap (λ m. sum_by (λ (n : NodeData). length (changes_of n)) (take m plan.nodes)) (sym (add-one k)) in
    omega (arith, one, before, more, here)

-- the bound on the moves of a run is the same by the market's lists as by the plan
pub bound-is : (plan : PlanData) → IsPlan plan → market_bound.bound (plan_lists plan) ≡ plan_bound plan
bound-is plan is =
    let many : nodes (plan_lists plan) ≡ length plan.nodes = length-parents_of plan.entries ∙ sym is.nodes.one_each in
    let each : market_bound.change_total (plan_lists plan) ≡ all_changes plan.nodes =
    ap (λ n. sum_to n (λ d. cond (is_leaf (plan_lists plan) d) (changes (plan_lists plan) d) 0)) many ∙ changes_to plan (length plan.nodes) is (omega arith)
    ∙ ap (λ (l : List NodeData). all_changes l) (take_all _ plan.nodes (omega arith)) in
    let ends : market.phases (plan_lists plan) ≡ phases plan = length-map-range_with_len _ 1 (phases plan) in
    ap (λ n. n * (nodes (plan_lists plan) + 15) + market.phases (plan_lists plan)) each
    ∙ ap (λ n. all_changes plan.nodes * (n + 15) + market.phases (plan_lists plan)) many
    ∙ ap (λ n. all_changes plan.nodes * (length plan.nodes + 15) + n) ends

-- what stands in place k among the children of y is a node, with parent y and place k
pub child_node : (plan : PlanData) (y k : ℕ) → k < length (children_of plan.entries y) →
    IsNode (plan_lists plan) (get_or (children_of plan.entries y) k 0)
    × (parent (plan_lists plan) (get_or (children_of plan.entries y) k 0) ≡ y)
    × (place_of plan.entries (get_or (children_of plan.entries y) k 0) ≡ k)
child_node plan y k lt =
    let at = child_entry plan.entries y k lt in
    let child : ℕ = get_or (children_of plan.entries y) k 0 in
    ((at.0, omega (arith, at.1, length-parents_of plan.entries)), parent-is plan child ∙ at.2, at.3)

-- limits of a node of a plan have power 0 between them, and are within the limit of a sum
pub limits_around : (plan : PlanData) → IsPlan plan → (y : ℕ) (limits : Limits) → limits_of (node plan y) ≡ Some limits → AreLimits limits
limits_around plan is_plan y limits told = is_plan.within.limits y limits (limits_of-tells (node plan y) limits told)

-- What every plan keeps of its tree: lawful lists, and the children of a node and their places.
use Rattle.std.proofs.Common.{◌≡◌, ◌∙◌, sym, ap, subst, ℕ, zero, suc, ◌+◌, ◌*◌, ◌<◌, ◌≤◌, List}
use Rattle.std.proofs.Common.{[], ◌∷◌, length, Some, arith, inl, inr}
use Rattle.std.proofs.lemmas.Bool.{cases_lt}
use Rattle.pm_base.specs.Limits.{most_changes}
use Rattle.pm_tree.specs.Entries.{children_of, place_of}
use Rattle.pm_market.specs.Lists.{nodes, parent, IsNode}
use Rattle.pm_market.specs.Bound.{change_total}
use Rattle.pm_plan.specs.Kept.{IsPlan}
use Rattle.pm_plan.specs.Plans.{PlanData, end_cut}
use Rattle.pm_plan.specs.Market.{plan_lists}
use Rattle.pm_stands.specs.Core.{child_at}
use Rattle.pm_plan.proofs.MarketLists as market_lists
use Rattle.pm_tree.proofs.Places.{child_at_place}
use Rattle.pm_tree.proofs.Named.{length-parents_of}
use Rattle.pm_plan.specs.Plans.{node, limits_of, plan_bound, all_changes}
use Rattle.pm_plan.specs.Plans as plans
use Rattle.std.specs.Prelude.{slice_get}
use Rattle.std.proofs.lemmas.Option.{get_or_from_slice_get}
use Rattle.std.proofs.Math.Nat.{mul-le-mul_right, suc-mul}
use Rattle.pm_market.specs.Lists.{phases}

smaller_product : (a b k : ℕ) → a < b → a * suc k < b * suc k
smaller_product a b k lt = omega (arith, mul-le-mul_right (suc k) (suc_le a b lt), suc-mul a (suc k))
  where
    suc_le : (m n : ℕ) → m < n → suc m ≤ n
    suc_le m n h = omega arith

equal_factors : (a b k : ℕ) → a * suc k ≡ b * suc k → a ≡ b
equal_factors a b k same = elim (cases_lt a b) [
  | inl lt ↦ absurd (omega (arith, same, smaller_product a b k lt))
  | inr ge ↦ elim (cases_lt b a) [
    | inl gt ↦ absurd (omega (arith, same, smaller_product b a k gt))
    | inr le ↦ omega arith
  ]
]

-- all devices of a plan together make at most as many changes as a run may have
pub few_changes : (plan : PlanData) → IsPlan plan → change_total (plan_lists plan) ≤ most_changes
few_changes plan is_plan =
    let count : ℕ = nodes (plan_lists plan) + 14 in
    let more : nodes (plan_lists plan) + 15 ≡ suc count = omega arith in
    let nodes_same : length plan.nodes + 15 ≡ suc count = omega (arith, length-parents_of plan.entries, is_plan.nodes.one_each) in
    let phases_same : phases (plan_lists plan) ≡ plans.phases plan = market_lists.phases-is plan in
    let left : change_total (plan_lists plan) * (nodes (plan_lists plan) + 15) ≡ change_total (plan_lists plan) * suc count =
    ap (λ (n : ℕ). change_total (plan_lists plan) * n) more in
    let right : all_changes plan.nodes * (length plan.nodes + 15) ≡ all_changes plan.nodes * suc count =
    ap (λ (n : ℕ). all_changes plan.nodes * n) nodes_same in
    let products : change_total (plan_lists plan) * suc count ≡ all_changes plan.nodes * suc count =
    omega (arith, market_lists.bound-is plan is_plan, left, right, phases_same) in
    let same : change_total (plan_lists plan) ≡ all_changes plan.nodes =
    equal_factors (change_total (plan_lists plan)) (all_changes plan.nodes) count products in
    omega (arith, same, is_plan.within.few_changes)

-- a node stands in its place among the children of its parent
at_place : (plan : PlanData) (x : ℕ) → IsNode (plan_lists plan) x →
    slice_get (children_of plan.entries (parent (plan_lists plan) x)) (place_of plan.entries x) ≡ Some x
at_place plan x x_node =
    ap (λ (y : ℕ). slice_get (children_of plan.entries y) (place_of plan.entries x)) (market_lists.parent-is plan x)
    ∙ child_at_place plan.entries x x_node.0 (omega (arith, x_node.1, length-parents_of plan.entries))

-- the place of a node is less than the number of its parent's children
pub placed : (plan : PlanData) → IsPlan plan → (x : ℕ) → IsNode (plan_lists plan) x →
    place_of plan.entries x < length (children_of plan.entries (parent (plan_lists plan) x))
placed plan is_plan x x_node = slice_get_inside (children_of plan.entries (parent (plan_lists plan) x)) (place_of plan.entries x) x (at_place plan x x_node)
  where
    slice_get_inside : (xs : List ℕ) (k v : ℕ) → slice_get xs k ≡ Some v → k < length xs
    slice_get_inside [] k v here = (cc)
    slice_get_inside (y ∷ xs) zero v here = omega arith
    slice_get_inside (y ∷ xs) (suc k) v here = omega (arith, slice_get_inside xs k v here)

-- in a node's place among the children of its parent stands the node
pub child_in_place : (plan : PlanData) → IsPlan plan → (x : ℕ) → IsNode (plan_lists plan) x →
    child_at plan (parent (plan_lists plan) x) (place_of plan.entries x) ≡ x
child_in_place plan is_plan x x_node =
    get_or_from_slice_get (children_of plan.entries (parent (plan_lists plan) x)) (place_of plan.entries x) x 0 (at_place plan x x_node)

-- two nodes in one place are one
pub one_place : (plan : PlanData) → IsPlan plan → (x y : ℕ) → IsNode (plan_lists plan) x → IsNode (plan_lists plan) y →
    parent (plan_lists plan) x ≡ parent (plan_lists plan) y → place_of plan.entries x ≡ place_of plan.entries y → x ≡ y
one_place plan is_plan x y x_node y_node e f =
    sym (child_in_place plan is_plan x x_node) ∙ ap (λ (c : ℕ). child_at plan c (place_of plan.entries x)) e
    ∙ ap (child_at plan (parent (plan_lists plan) y)) f ∙ child_in_place plan is_plan y y_node

-- what holds of the parent and the place of a node holds of the numbers that were read of them, and the other way round
pub at_node : (plan : PlanData) (x y k : ℕ) (P : ℕ → ℕ → Type 0) → y ≡ parent (plan_lists plan) x → k ≡ place_of plan.entries x →
    P y k → P (parent (plan_lists plan) x) (place_of plan.entries x)
at_node plan x y k P e f h = subst (λ (j : ℕ). P (parent (plan_lists plan) x) j) f (subst (λ (i : ℕ). P i k) e h)

-- what holds of the parent and the place of a node holds of any numbers that are the same as these
pub from_node : (plan : PlanData) (x y k : ℕ) (P : ℕ → ℕ → Type 0) → y ≡ parent (plan_lists plan) x → k ≡ place_of plan.entries x →
    P (parent (plan_lists plan) x) (place_of plan.entries x) → P y k
from_node plan x y k P e f h = subst (λ (j : ℕ). P y j) (sym f) (subst (λ (i : ℕ). P i (place_of plan.entries x)) (sym e) h)

-- The nodes of a plan: how many there are, which of them make changes, and the group of each.
use Rattle.std.proofs.Common.{◌≡◌, ◌∙◌, sym, ap, ℕ, zero, suc, ◌<◌, ◌≤◌, Bool, true, false, cond, List, length, refl, arith}
use Rattle.std.specs.Prelude.{Some, Option, option_map}
use Rattle.pm_tree.specs.declared.node.NodeId.{NodeId}
use Rattle.pm_tree.proofs.Named.{length-parents_of}
use Rattle.pm_plan.specs.declared.planned.Change.{Change}
use Rattle.pm_plan.specs.Plans.{PlanData, NodeData, node, changes_of, parent, is_leaf, is_limited, group, group_in, unless_zero, group_above, change_count}
use Rattle.pm_plan.specs.Plans.{end_cut}
use Rattle.pm_plan.specs.Kept.{IsPlan}
use Rattle.pm_plan.proofs.DeviceNodes.{changes_of-none, node-beyond}
use Rattle.pm_plan.proofs.Ends.{end-within}

-- a node that is no device makes no change
pub no_changes : (plan : PlanData) (x : ℕ) → IsPlan plan → is_leaf plan x ≡ false → change_count plan x ≡ 0
no_changes plan x is other = ap (λ (changes : List Change). length changes) (changes_of-none (node plan x) (is.nodes.devices x ∙ other))

-- nor does a node beyond the last
no_changes-beyond : (plan : PlanData) (x : ℕ) → length plan.nodes < x → change_count plan x ≡ 0
no_changes-beyond plan x far = ap (λ (n : NodeData). length (changes_of n)) (node-beyond plan.nodes x far)

-- a node that is no device has no change up to the end of any phase
pub end-other : (plan : PlanData) (p x : ℕ) → IsPlan plan → is_leaf plan x ≡ false → end_cut plan p x ≡ 0
end-other plan p x is other = omega (arith, end-within plan p x, no_changes plan x is other)

-- a number beyond the last node has no change up to the end of any phase
pub end-beyond : (plan : PlanData) (p x : ℕ) → length plan.nodes < x → end_cut plan p x ≡ 0
end-beyond plan p x far = omega (arith, end-within plan p x, no_changes-beyond plan x far)

-- the auctioneer has no change up to the end of any phase
pub end-zero : (plan : PlanData) (p : ℕ) → end_cut plan p 0 ≡ 0
unfolding end_cut
end-zero plan p = refl

-- the parent of a node of the plan, or of the auctioneer, is no number beyond the last node
pub parent_inside : (plan : PlanData) (x : ℕ) → IsPlan plan → x ≤ length plan.nodes → parent plan x ≤ length plan.nodes
parent_inside plan zero is inside = omega arith
parent_inside plan (suc x) is inside =
    let long = length-parents_of plan.entries in
    omega (arith, is.nodes.one_each, long, is.tree.earlier (suc x) (omega arith) (omega (arith, is.nodes.one_each, long)))

cond_within : (b : Bool) (m n limit : ℕ) → m ≤ limit → n ≤ limit → cond b m n ≤ limit
cond_within true m n limit h k = h
cond_within false m n limit h k = k

group_in_inside : (plan : PlanData) (levels x : ℕ) → IsPlan plan → x ≤ length plan.nodes → group_in plan levels x ≤ length plan.nodes
unfolding group_in
group_in_inside plan zero x is inside = omega arith
group_in_inside plan (suc levels) x is inside =
    let up = parent_inside plan x is inside in
    cond_within (is_limited plan (parent plan x)) (parent plan x) (group_in plan levels (parent plan x)) (length plan.nodes) up
    (group_in_inside plan levels (parent plan x) is up)

-- the group of a node of the plan, or of the auctioneer, is no number beyond the last node
pub group_inside : (plan : PlanData) (x : ℕ) → IsPlan plan → x ≤ length plan.nodes → group plan x ≤ length plan.nodes
unfolding group
group_inside plan x is inside = group_in_inside plan x x is inside

some_group : (g h : ℕ) → Some h ≡ unless_zero g → h ≡ g
some_group zero h e = absurd (cc e)
some_group (suc g) h e = cc e

-- the group that is found above a node is its group
pub group_found : (plan : PlanData) (x : ℕ) (found : Option NodeId) (g : NodeId) →
    option_map (λ (n : NodeId). n.0) found ≡ group_above plan x → found ≡ Some g → g.0 ≡ group plan x
group_found plan x found g found_is here =
    some_group (group plan x) g.0 (sym (ap (λ (o : Option NodeId). option_map (λ (n : NodeId). n.0) o) here) ∙ found_is)

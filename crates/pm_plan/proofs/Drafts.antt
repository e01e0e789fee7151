-- One more change of a device, the group of a node, and names of devices.
use Rattle.std.proofs.Common.{◌≡◌, ◌∙◌, sym, ap, ℕ, zero, suc, ◌+◌, ◌-◌, ◌<◌, ◌≤◌, true, false, List, ◌++◌, length}
use Rattle.std.proofs.Common.{get_or, map, take, drop, arith}
use Rattle.std.proofs.Math.ListN.{set}
use Rattle.std.proofs.lemmas.Bool.{cond-true, cond-false}
use Rattle.std.proofs.lemmas.List.{get_or_read, get_or_default}
use Rattle.std.proofs.lemmas.List.Edits.{map_over_more}
use Rattle.pm_tree.specs.Entries.{Entry, parents_of, leaves_of, is_leaf_at}
use Rattle.pm_tree.specs.Shape.{IsTree}
use Rattle.pm_plan.specs.declared.planned.Planned.{Planned}
use Rattle.pm_plan.specs.declared.node.Node.TheVariants.{Concentrator}
use Rattle.pm_plan.specs.Plans.{PlanData, NodeData, node, is_limited, parent, group, group_in}
use Rattle.pm_plan.proofs.Groups.{Earlier, group-up}
use Rattle.pm_tree.proofs.Named.{length-parents_of}
use Rattle.pm_plan.specs.Building.{with_change, map_device, with_change_of}

-- where the parent is limited, it is the group
pub group_is_parent : (plan : PlanData) (x : ℕ) → 1 ≤ x → is_limited plan (parent plan x) ≡ true → group plan x ≡ parent plan x
unfolding group group_in
group_is_parent plan zero low limited = absurd (omega arith)
group_is_parent plan (suc x) low limited =
    cond-true {A = ℕ} (is_limited plan (parent plan (suc x))) (parent plan (suc x)) (group_in plan x (parent plan (suc x))) limited

-- else the parent's group is the group
pub group_of_parent : (plan : PlanData) (x : ℕ) → IsTree (parents_of plan.entries) (leaves_of plan.entries) → 1 ≤ x →
    x ≤ length plan.entries → is_limited plan (parent plan x) ≡ false → group plan (parent plan x) ≡ group plan x
group_of_parent plan x tree low inside limited =
    let earlier : Earlier plan (length plan.entries) = λ y first last. tree.earlier y first (omega (arith, length-parents_of plan.entries)) in
    sym (group-up plan (length plan.entries) x earlier low inside
    ∙ cond-false {A = ℕ} (is_limited plan (parent plan x)) (parent plan x) (group plan (parent plan x)) limited)

-- a limited concentrator is not the auctioneer: its number is 1 or above
pub limited_is_no_root : (plan : PlanData) (x : ℕ) → is_limited plan x ≡ true → 1 ≤ x
limited_is_no_root plan zero limited = absurd (let h : false ≡ true = limited in cc)
limited_is_no_root plan (suc x) limited = omega arith

-- a device's node was exchanged for one with one more change
pub changed_is : (plan : PlanData) (d p : ℕ) (what : Planned) (old new : NodeData) → 1 ≤ d → d ≤ length plan.nodes →
    old ≡ get_or plan.nodes (d - 1) old → new ≡ map_device (with_change p what) old →
    (let changed : PlanData = record plan { nodes = set plan.nodes (d - 1) new } in changed) ≡ with_change_of plan d p what
unfolding with_change_of
changed_is plan zero p what old new low high read made = absurd (omega arith)
changed_is plan (suc k) p what old new low high read made =
    let place : suc k - 1 ≡ k = omega arith in
    let here : old ≡ node plan (suc k) = get_or_read plan.nodes k old (omega arith) (read ∙ ap (λ i. get_or plan.nodes i old) place) Concentrator in
    ap (λ n. (let changed : PlanData = record plan { nodes = set plan.nodes (suc k - 1) n } in changed)) (made ∙ ap (map_device (with_change p what)) here)

-- one more node was changed by f
pub map_more : (f : NodeData → NodeData) (xs ys : List NodeData) (i : ℕ) (d y : NodeData) → i < length xs → i < length ys →
    ys ≡ map f (take i xs) ++ drop i xs → y ≡ f (get_or ys i d) → set ys i y ≡ map f (take (i + 1) xs) ++ drop (i + 1) xs
map_more f xs ys i d y inside within before made =
    ap (set ys i) made ∙ map_over_more f xs ys i (get_or ys i d) inside before (get_or_default ys i d (get_or ys i d) within)

-- a leaf of the tree is not the auctioneer: its number is 1 or above
pub device_is_no_root : (entries : List Entry) (x : ℕ) → is_leaf_at entries x ≡ true → 1 ≤ x
device_is_no_root entries zero leaf = absurd (let h : false ≡ true = leaf in cc)
device_is_no_root entries (suc x) leaf = omega arith

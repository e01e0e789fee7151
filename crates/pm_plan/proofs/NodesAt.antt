-- The nodes of a plan after one was added or changed.
use Rattle.std.proofs.Common.{◌≡◌, ◌∙◌, sym, ap, ℕ, zero, suc, ◌+◌, ◌-◌, ◌<◌, ◌≤◌, ◌≢◌, ℤ, Bool, List, [], ◌∷◌}
use Rattle.std.proofs.Common.{◌++◌, length, map, get_or, cond, refl, arith, subst, inl, inr}
use Rattle.std.proofs.Math.ListN.{set, get_or-append}
use Rattle.std.proofs.Math.Seq.{get_or-append_seam}
use Rattle.std.proofs.lemmas.Bool.{cases_lt, cases_eq}
use Rattle.std.proofs.lemmas.List.{length-append, get_or-set_same, get_or-set_other}
use Rattle.pm_tree.specs.Entries.{parent_of}
use Rattle.pm_plan.specs.declared.planned.Planned.{Planned}
use Rattle.pm_plan.specs.Devices.{DeviceData}
use Rattle.pm_plan.specs.declared.node.Node.TheVariants.{Concentrator}
use Rattle.pm_plan.specs.Plans.{PlanData, NodeData, node, parent, is_limited, group, group_in}
use Rattle.pm_plan.specs.Building.{with_node, with_change, map_device, with_change_of, with_tick, device_after_tick}
use Rattle.pm_plan.proofs.DeviceNodes.{node-beyond}
use Rattle.pm_plan.proofs.Groups.{Earlier, group_in-zero}

-- ---- one more node

-- a plan with one more node keeps each node that it had
pub node-old : (plan : PlanData) (new : NodeData) (x : ℕ) → x ≤ length plan.nodes → node (with_node plan new) x ≡ node plan x
node-old plan new x inside = get_or-append (Concentrator ∷ plan.nodes) (new ∷ []) Concentrator x (omega arith)

-- the node added to a plan has the number after the last one
pub node-new : (plan : PlanData) (new : NodeData) → node (with_node plan new) (length plan.nodes + 1) ≡ new
node-new plan new =
    ap (λ m. get_or (Concentrator ∷ plan.nodes ++ new ∷ []) m Concentrator)
    (let e : length plan.nodes + 1 ≡ length (Concentrator ∷ plan.nodes) = omega arith in e)
    ∙ get_or-append_seam (Concentrator ∷ plan.nodes) new [] Concentrator

-- what holds of each node and of the new one holds of each
pub each_with_node : (P : NodeData → Type 0) (plan : PlanData) (new : NodeData) → ((x : ℕ) → P (node plan x)) → P new → (x : ℕ) →
    P (node (with_node plan new) x)
each_with_node P plan new all one x = elim (cases_lt (length plan.nodes) x) [
  | inr old ↦ subst P (sym (node-old plan new x (omega arith))) (all x)
  | inl late ↦ elim (cases_lt (length plan.nodes + 1) x) [
    | inl far ↦ subst P (sym (node-beyond (plan.nodes ++ new ∷ []) x (let long = length-append plan.nodes (new ∷ []) in omega arith)))
        (subst P (node-beyond plan.nodes x late) (all x))
    | inr here ↦ subst (λ (y : ℕ). P (node (with_node plan new) y)) (let e : length plan.nodes + 1 ≡ x = omega arith in e)
        (subst P (sym (node-new plan new)) one)
  ]
]

-- ---- one more change of a node

-- the node that gets one more change is, where a device, the old one with that change, and else the old one
pub node-same : (plan : PlanData) (d p : ℕ) (what : Planned) → 1 ≤ d → d ≤ length plan.nodes →
    node (with_change_of plan d p what) d ≡ map_device (with_change p what) (node plan d)
unfolding with_change_of
node-same plan zero p what low high = absurd (omega arith)
node-same plan (suc d) p what low high =
    ap (λ i. get_or (set plan.nodes i (map_device (with_change p what) (node plan (suc d)))) d Concentrator) (let e : suc d - 1 ≡ d = omega arith in e)
    ∙ get_or-set_same plan.nodes d (map_device (with_change p what) (node plan (suc d))) Concentrator (omega arith)

-- one more change of a node leaves each other node as it was
pub node-other : (plan : PlanData) (d p x : ℕ) (what : Planned) → 1 ≤ d → x ≢ d → node (with_change_of plan d p what) x ≡ node plan x
unfolding with_change_of
node-other plan zero p x what low other = absurd (omega arith)
node-other plan (suc d) p zero what low other = refl
node-other plan (suc d) p (suc x) what low other =
    ap (λ i. get_or (set plan.nodes i (map_device (with_change p what) (node plan (suc d)))) x Concentrator) (let e : suc d - 1 ≡ d = omega arith in e)
    ∙ get_or-set_other plan.nodes d x (map_device (with_change p what) (node plan (suc d))) Concentrator (λ e. other (ap (λ n. suc n) e))

-- what holds of each old node and of the one with a new change holds of each node of the changed plan
pub each_with_change : (P : NodeData → Type 0) (plan : PlanData) (d p : ℕ) (what : Planned) → 1 ≤ d → d ≤ length plan.nodes →
    ((x : ℕ) → P (node plan x)) → P (map_device (with_change p what) (node plan d)) → (x : ℕ) → P (node (with_change_of plan d p what) x)
each_with_change P plan d p what low high all one x = elim (cases_eq x d) [
  | inl here ↦ subst (λ (y : ℕ). P (node (with_change_of plan d p what) y)) (sym here) (subst P (sym (node-same plan d p what low high)) one)
  | inr other ↦ subst P (sym (node-other plan d p x what low other)) (all x)
]

-- what no change of a device alters stays of each node
pub same_with : {X : Type 0} (f : NodeData → X) → ((g : DeviceData → DeviceData) (n : NodeData) → f (map_device g n) ≡ f n) →
    (plan : PlanData) (d p x : ℕ) (what : Planned) → 1 ≤ d → d ≤ length plan.nodes → f (node (with_change_of plan d p what) x) ≡ f (node plan x)
same_with f keeps plan d p x what low high = elim (cases_eq x d) [
  | inl here ↦
      subst (λ (y : ℕ). f (node (with_change_of plan d p what) y) ≡ f (node plan y)) (sym here)
      (ap f (node-same plan d p what low high) ∙ keeps (with_change p what) (node plan d))
  | inr other ↦ ap f (node-other plan d p x what low other)
]

-- ---- a tick

get_or-map_at : {A B : Type 0} (f : A → B) (xs : List A) (i : ℕ) (d : A) → get_or (map f xs) i (f d) ≡ f (get_or xs i d)
get_or-map_at f [] i d = refl
get_or-map_at f (x ∷ xs) zero d = refl
get_or-map_at f (x ∷ xs) (suc i) d = get_or-map_at f xs i d

-- a node after a tick is, where a device, what the tick makes of the old one, and else the old one
pub node-ticked : (plan : PlanData) (p : ℕ) (minutes : ℤ) (x : ℕ) → node (with_tick p minutes plan) x
    ≡ map_device (device_after_tick p minutes) (node plan x)
node-ticked plan p minutes x = get_or-map_at (map_device (device_after_tick p minutes)) (Concentrator ∷ plan.nodes) x Concentrator

-- ---- groups

-- the limited concentrators above a node are the same where the same nodes below it are limited
pub group_in-same : (plan other : PlanData) (many bound levels x : ℕ) → other.entries ≡ plan.entries → Earlier plan many →
    ((y : ℕ) → y < bound → is_limited other y ≡ is_limited plan y) → x ≤ many → x ≤ bound → group_in other levels x ≡ group_in plan levels x
unfolding group_in
group_in-same plan other many bound zero x entries earlier same inside low = refl
group_in-same plan other many bound (suc levels) zero entries earlier same inside low = group_in-zero other (suc levels)
    ∙ sym (group_in-zero plan (suc levels))
group_in-same plan other many bound (suc levels) (suc x) entries earlier same inside low =
    let y = parent plan (suc x) in
    let below : y < suc x = earlier (suc x) (omega arith) inside in
    let up : parent other (suc x) ≡ y = ap (λ l. parent_of l (suc x)) entries in
    ap (λ z. cond (is_limited other z) z (group_in other levels z)) up
    ∙ ap (λ (b : Bool). cond b y (group_in other levels y)) (same y (omega arith))
    ∙ ap (cond (is_limited plan y) y) (group_in-same plan other many bound levels y entries earlier same (omega arith) (omega arith))

-- a node has the same group in plans of one tree, parents first, where the same earlier nodes are limited
pub group-same : (plan other : PlanData) (many bound x : ℕ) → other.entries ≡ plan.entries → Earlier plan many →
    ((y : ℕ) → y < bound → is_limited other y ≡ is_limited plan y) → x ≤ many → x ≤ bound → group other x ≡ group plan x
unfolding group
group-same plan other many bound x entries earlier same inside low = group_in-same plan other many bound x x entries earlier same inside low

-- the same for all nodes
group_in-same_all : (plan other : PlanData) (levels x : ℕ) → other.entries ≡ plan.entries →
    ((y : ℕ) → is_limited other y ≡ is_limited plan y) → group_in other levels x ≡ group_in plan levels x
unfolding group_in
group_in-same_all plan other zero x entries same = refl
group_in-same_all plan other (suc levels) x entries same =
    let y = parent plan x in
    let up : parent other x ≡ y = ap (λ l. parent_of l x) entries in
    ap (λ z. cond (is_limited other z) z (group_in other levels z)) up
    ∙ ap (λ (b : Bool). cond b y (group_in other levels y)) (same y)
    ∙ ap (cond (is_limited plan y) y) (group_in-same_all plan other levels y entries same)

-- each node has the same group in two plans of one tree where the same nodes are limited
pub group-same_all : (plan other : PlanData) (x : ℕ) → other.entries ≡ plan.entries →
    ((y : ℕ) → is_limited other y ≡ is_limited plan y) → group other x ≡ group plan x
unfolding group
group-same_all plan other x entries same = group_in-same_all plan other x x entries same

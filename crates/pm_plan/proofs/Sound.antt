-- The plan that parts give is one that the type of a plan keeps.
use Rattle.std.proofs.Common.{◌≡◌, ◌∙◌, sym, ap, ℕ, zero, suc, ◌+◌, ◌-◌, ◌<◌, ◌≤◌, ℤ, Bool, true, false, List, [], length}
use Rattle.std.proofs.Common.{get_or, refl, arith, subst, IsTrue, Option, Some, None, Ok, inl, inr}
use Rattle.std.specs.Prelude.{if◌then◌else◌, is_some, nat_le, nat_lt}
use Rattle.std.proofs.Math.ListN.{get_or-eq_default}
use Rattle.std.proofs.lemmas.Bool.{cases_lt, leb-true}
use Rattle.std.proofs.lemmas.Bool.Decides.{nat_tests}
use Rattle.std.proofs.lemmas.List.{length-map, get_or-map, get_or_default}
use Rattle.pm_basis.specs.Prices.{BasisValue, IsBasis}
use Rattle.pm_tree.specs.declared.fault.TreeFault.{TreeFault}
use Rattle.pm_tree.specs.Entries.{Entry, checked_tree, tree_unless, first_refusal, parents_of, leaves_of, is_leaf_at}
use Rattle.pm_tree.specs.Shape.{IsTree}
use Rattle.pm_plan.specs.declared.refusal.Cause.TheVariants as cause
use Rattle.pm_plan.specs.declared.planned.Change.{Change}
use Rattle.pm_plan.specs.declared.refusal.Place.TheVariants.{Document}
use Rattle.pm_plan.specs.Parts.{NodePart, concentrator, is_device, PhasePart, AreNodesOf}
use Rattle.pm_plan.specs.Devices.{DeviceData}
use Rattle.pm_plan.specs.declared.node.Node.TheVariants.{Concentrator, Limited, Device}
use Rattle.pm_plan.specs.Plans.{PlanData, NodeData, node, limits_of, changes_of, is_leaf, is_limited, group, phases, minutes_of, all_changes}
use Rattle.pm_plan.specs.Plans as plans
use Rattle.pm_plan.specs.Kept.{IsPlan, DeviceFits, no_change, change_fits}
use Rattle.pm_base.specs.Limits.{most_phases, most_nodes}
use Rattle.pm_base.specs.Outcomes.{fold_from}
use Rattle.pm_tree.proofs.Named.{length-leaves_of}
use Rattle.pm_plan.specs.Building.{add_node, add_phase, empty_plan, checked_plan}
use Rattle.pm_plan.proofs.Inversions.{bind-ok, check-ok}
use Rattle.pm_plan.proofs.DeviceNodes.{node-beyond}
use Rattle.pm_plan.proofs.Changes.{DeviceHolds, NodeHolds}
use Rattle.pm_plan.proofs.NodesTaken.{NodesTaken, nodes_taken}
use Rattle.pm_plan.proofs.PhasesTaken.{OnWay, PhasesTaken, phases_taken, sum_none}

-- a tree has at most 256 entries
few_if : (many : ℕ) (b : Bool) (fault : TreeFault) (rest : Option TreeFault) (entries : List Entry) → nat_lt most_nodes many ≡ b →
    tree_unless entries (if b then Some fault else rest) ≡ Ok entries → many ≤ most_nodes
few_if many true fault rest entries is h = absurd (cc h)
few_if many false fault rest entries is h = grind (arith, nat_tests)

few_entries : (entries : List Entry) → checked_tree entries ≡ Ok entries → length entries ≤ most_nodes
unfolding first_refusal
few_entries entries h = few_if (length entries) (nat_lt most_nodes (length entries)) _ _ entries refl h

-- the devices among the parts are the leaves
part_is : (entries : List Entry) (parts : List NodePart) (x : ℕ) → AreNodesOf entries parts → x < length parts →
    is_device (get_or parts x concentrator) ≡ is_leaf_at entries (suc x)
part_is entries parts x fit inside =
    sym (get_or-map is_device parts x concentrator false inside) ∙ ap (λ (l : List Bool). get_or l x false) fit

-- so the devices among the nodes are, and no node lies beyond the tree
devices_taken : (entries : List Entry) (parts : List NodePart) (plan : PlanData) → AreNodesOf entries parts →
    NodesTaken entries parts plan → (x : ℕ) →
    plans.is_device (node plan x) ≡ is_leaf plan x
devices_taken entries parts plan fit taken zero = refl
devices_taken entries parts plan fit taken (suc x) =
    let here = ap (λ (l : List Entry). is_leaf_at l (suc x)) (sym taken.same_entries) in
    let many = sym (length-map parts is_device) ∙ ap (λ (l : List Bool). length l) fit ∙ length-leaves_of entries in
    let nodes = taken.many in
    elim (cases_lt x (length parts)) [
      | inl inside ↦
          let place : suc x ≡ x + 1 = omega arith in
          ap (λ y. plans.is_device (node plan y)) place ∙ taken.devices x inside ∙ part_is entries parts x fit inside ∙ here
      | inr far ↦
          ap plans.is_device (node-beyond plan.nodes (suc x) (omega arith))
          ∙ sym (get_or-eq_default (leaves_of entries) false {n = x} (let long = length-leaves_of entries in omega arith)) ∙ here
    ]

no_changes : (plan : PlanData) → ((x : ℕ) → changes_of (node plan x) ≡ []) → all_changes plan.nodes ≤ 0
no_changes plan unchanged =
    sum_none (λ (n : NodeData). length (changes_of n)) plan.nodes
    (λ i d inside.
    let here = ap (λ (n : NodeData). length (changes_of n)) (get_or_default plan.nodes i d Concentrator inside) in
    let none = ap (λ l. length l) (unchanged (suc i)) in
    omega arith)

no_phases : (plan : PlanData) (q : ℕ) → plan.minutes ≡ [] → minutes_of plan q ≡ None
no_phases plan q none = ap (λ (l : List (Option ℤ)). get_or l (q - 1) None) none

-- the way begins once all nodes were taken
begun : (entries : List Entry) (parts : List NodePart) (plan : PlanData) → AreNodesOf entries parts → NodesTaken entries parts plan →
    PhasesTaken entries [] plan
begun entries parts plan fit taken =
    let many = sym (length-map parts is_device) ∙ ap (λ (l : List Bool). length l) fit ∙ length-leaves_of entries in
    record {
      way = record {
        same_entries = taken.same_entries;
        many = taken.many ∙ many ∙ ap (λ (l : List Entry). length l) (sym taken.same_entries);
        devices = devices_taken entries parts plan fit taken;
        closed = ap (λ (l : List (Option ℤ)). length l) taken.no_minutes;
        minutes = λ q m is. absurd (cc (sym (no_phases plan q taken.no_minutes) ∙ is));
        few_events = λ q first last none. absurd (omega arith);
        one_limit = taken.one_limit;
        holds = taken.holds;
      };
      few_changes = (let none = no_changes plan taken.unchanged in omega arith);
    }

-- a node beyond the tree is none
one_limit_all : (entries : List Entry) (p k : ℕ) (plan : PlanData) → OnWay entries p k plan → (x : ℕ) → is_limited plan x ≡ true →
    group plan x ≡ 0
one_limit_all entries p k plan way x bounded = elim (cases_lt (length plan.entries) x) [
  | inr inside ↦ way.one_limit x (omega arith) bounded
  | inl far ↦
      let many = way.many in
      absurd (cc (sym (ap (λ (n : NodeData). is_some (limits_of n)) (node-beyond plan.nodes x (omega arith))) ∙ bounded))
]

-- what holds of a device says that it fits
device_fits : (p : ℕ) (planned : DeviceData) → DeviceHolds p planned → DeviceFits planned
device_fits p planned hold = record {
  kind = hold.valid;
  start = hold.start;
  changes = λ n d inside. subst (λ (c : Change). IsTrue (change_fits planned.kind c.what)) (get_or_default planned.changes n no_change d inside)
      (hold.changes.fit n inside);
}

-- changes of the phases 1 to p whose phases never fall
record InOrder (p : ℕ) (changes : List Change) : Type 0 where
  first : (n : ℕ) → n < length changes → 1 ≤ (get_or changes n no_change).phase
  last : (n : ℕ) → n < length changes → (get_or changes n no_change).phase ≤ p
  rise : (m n : ℕ) → m ≤ n → n < length changes → (get_or changes m no_change).phase ≤ (get_or changes n no_change).phase

no_order : (p : ℕ) → InOrder p []
no_order p = record { first = λ n h. absurd (omega arith); last = λ n h. absurd (omega arith); rise = λ m n h i. absurd (omega arith) }

-- what holds of a node says so of its changes
in_order : (p : ℕ) (n : NodeData) → NodeHolds p n → InOrder p (changes_of n)
in_order p Concentrator hold = no_order p
in_order p (Limited limits) hold = no_order p
in_order p (Device planned) hold = record { first = hold.changes.first; last = hold.changes.last; rise = hold.changes.rise }

-- the end of the way
arrived : (entries : List Entry) (parts : List PhasePart) (plan : PlanData) → checked_tree entries ≡ Ok entries →
    IsTree (parents_of entries) (leaves_of entries) → length parts ≤ most_phases → PhasesTaken entries parts plan → IsPlan plan
arrived entries parts plan accepted tree few taken =
    let way = taken.way in
    let same = sym way.same_entries in
    let count = ap (λ (l : List Entry). length l) way.same_entries in
    let order : (d : ℕ) → InOrder (length parts) (changes_of (node plan d)) = λ d. in_order (length parts) (node plan d) (way.holds.nodes d) in
    record {
      basis = way.holds.basis;
      accepted = subst (λ (l : List Entry). checked_tree l ≡ Ok l) same accepted;
      tree = subst (λ (l : List Entry). IsTree (parents_of l) (leaves_of l)) same tree;
      nodes = record {
        one_each = way.many;
        few = (let all = few_entries entries accepted in let each = way.many in omega arith);
        devices = way.devices;
      };
      arrays = way.holds.arrays;
      in_phases = record {
        first = λ d n inside. (order d).first n inside;
        last = λ d n inside. (let last = (order d).last n inside in let closed = way.closed in omega arith);
        rise = λ d m n le inside. (order d).rise m n le inside;
      };
      within = record {
        devices = λ d planned is. device_fits (length parts) planned (subst (NodeHolds (length parts)) is (way.holds.nodes d));
        limits = λ x limits is. subst (NodeHolds (length parts)) is (way.holds.nodes x);
        minutes = way.minutes;
        few_phases = (let closed = way.closed in omega arith);
        few_events = λ q first last none. way.few_events q first (let closed = way.closed in omega arith) none;
        few_changes = taken.few_changes;
      };
      one_limit = one_limit_all entries (length parts) (length parts) plan way;
    }

-- all nodes and all phases were taken
taken_all : (basis : BasisValue) (entries : List Entry) (nodes : List NodePart) (phases : List PhasePart) (plan : PlanData) →
    IsBasis basis → IsTree (parents_of entries) (leaves_of entries) → AreNodesOf entries nodes →
    checked_plan basis entries nodes phases ≡ Ok plan → PhasesTaken entries phases plan
unfolding checked_plan
taken_all basis entries nodes phases plan sound tree fit h =
    let few = check-ok cause.RunTooLarge Document (nat_le (length phases) most_phases) _ plan h in
    let made = bind-ok (fold_from 1 add_node (empty_plan basis entries) nodes) (λ p. fold_from 1 add_phase p phases) plan few.rest in
    let start = begun entries nodes made.value fit (nodes_taken basis entries nodes made.value sound tree made.first) in
    phases_taken entries phases made.value plan start made.rest

few_phases : (basis : BasisValue) (entries : List Entry) (nodes : List NodePart) (phases : List PhasePart) (plan : PlanData) →
    checked_plan basis entries nodes phases ≡ Ok plan → length phases ≤ most_phases
unfolding checked_plan
few_phases basis entries nodes phases plan h =
    let few = check-ok cause.RunTooLarge Document (nat_le (length phases) most_phases) _ plan h in
    leb-true (length phases) most_phases few.holds

-- what a market basis, an accepted tree and its nodes and phases give, where not refused, is a plan
pub checked_plan-keeps : (basis : BasisValue) (entries : List Entry) (nodes : List NodePart) (phases : List PhasePart)
    (plan : PlanData) → IsBasis basis → checked_tree entries ≡ Ok entries → IsTree (parents_of entries) (leaves_of entries) →
    AreNodesOf entries nodes → checked_plan basis entries nodes phases ≡ Ok plan → IsPlan plan
checked_plan-keeps basis entries nodes phases plan sound accepted tree fit h =
    arrived entries phases plan accepted tree (few_phases basis entries nodes phases plan h) (taken_all basis entries nodes phases plan sound tree fit h)

-- the plan has as many phases as the parts
pub checked_plan-phases : (basis : BasisValue) (entries : List Entry) (nodes : List NodePart) (parts : List PhasePart)
    (plan : PlanData) → IsBasis basis → IsTree (parents_of entries) (leaves_of entries) → AreNodesOf entries nodes →
    checked_plan basis entries nodes parts ≡ Ok plan → phases plan ≡ length parts
checked_plan-phases basis entries nodes parts plan sound tree fit h = (taken_all basis entries nodes parts plan sound tree fit h).way.closed

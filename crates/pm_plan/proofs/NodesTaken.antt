-- What holds of a plan while its nodes are taken.
use Rattle.std.proofs.Common.{◌≡◌, ◌∙◌, sym, ap, ℕ, zero, suc, ◌+◌, ◌<◌, ◌≤◌, ℤ, pos, neg_ℤ, true, List, [], ◌∷◌}
use Rattle.std.proofs.Common.{◌++◌, length, get_or, refl, arith, subst, inl, inr, Ok}
use Rattle.std.specs.Prelude.{◌==◌, is_some, All}
use Rattle.std.proofs.lemmas.Int.{ints}
use Rattle.std.proofs.lemmas.Bool.{cases_lt}
use Rattle.std.proofs.lemmas.Bool.Decides.{nat_tests}
use Rattle.std.proofs.lemmas.List.{length-append}
use Rattle.std.proofs.Math.ListN.{get_or-append}
use Rattle.std.proofs.Math.Seq.{get_or-append_seam}
use Rattle.pm_basis.specs.Prices.{BasisValue, IsBasis}
use Rattle.pm_device.specs.Kinds.{is_valid, is_between}
use Rattle.pm_device.proofs.Between.{is_between-tells, both_true}
use Rattle.pm_device.specs.declared.kind.Kind.{Kind}
use Rattle.pm_base.specs.declared.limits.Limits.{Limits}
use Rattle.pm_base.specs.Limits.{AreLimits, sum_limit}
use Rattle.pm_tree.specs.Entries.{Entry, parents_of, leaves_of, parent_of}
use Rattle.pm_tree.specs.Shape.{IsTree}
use Rattle.pm_plan.specs.declared.refusal.Cause.TheVariants as cause
use Rattle.pm_plan.specs.declared.refusal.Place.TheVariants.{Node}
use Rattle.pm_plan.specs.declared.node.Node.TheVariants.{Concentrator, Limited, Device}
use Rattle.pm_plan.specs.Devices.{DeviceData}
use Rattle.pm_plan.specs.Parts.{NodePart, concentrator, limited, device, is_device}
use Rattle.pm_plan.specs.Plans.{PlanData, NodeData, node, node_at, limits_of, changes_of, is_limited, group}
use Rattle.pm_plan.specs.Plans as plans
use Rattle.pm_plan.specs.Kept.{AreArrays}
use Rattle.pm_base.specs.Outcomes.{fold_from}
use Rattle.pm_plan.specs.Building.{are_limits, with_node, add_node, state_of, empty_plan}
use Rattle.pm_plan.proofs.Inversions.{bind-ok, check-ok, ok-is, fold_keeps}
use Rattle.pm_plan.proofs.Changes.{NodeHolds, no_changes-hold}
use Rattle.pm_plan.proofs.DeviceNodes.{node-beyond}
use Rattle.pm_plan.proofs.NodesAt.{node-old, node-new, each_with_node, group-same, group-same_all}
use Rattle.pm_plan.proofs.Groups.{Earlier}
use Rattle.pm_tree.proofs.Named.{length-parents_of}
use Rattle.pm_plan.proofs.StatesMade.{state-made}

-- what holds of a plan all along, where phase p is the last that may have changes
pub record Holds (p : ℕ) (plan : PlanData) : Type 0 where
  -- the basis of the plan is a market basis
  pub basis : IsBasis plan.basis
  -- each array of the plan is a bid of one device
  pub arrays : AreArrays plan
  -- what is kept of a node holds of each, where phase p is the last that may have changes
  pub nodes : (x : ℕ) → NodeHolds p (node plan x)

-- each limited node has none above it
abbrev pub OneLimit : PlanData → Type 0
OneLimit plan = (x : ℕ) → x ≤ length plan.entries → is_limited plan x ≡ true → group plan x ≡ 0

-- what holds once these node parts were taken
pub record NodesTaken (entries : List Entry) (done : List NodePart) (plan : PlanData) : Type 0 where
  -- the tree of the plan has these entries
  pub same_entries : plan.entries ≡ entries
  -- the plan has one node for each part taken
  pub many : length plan.nodes ≡ length done
  -- the plan has no phases so far
  pub no_minutes : plan.minutes ≡ []
  -- no node of the plan has changes so far
  pub unchanged : (x : ℕ) → changes_of (node plan x) ≡ []
  -- each node taken so far is a device exactly where its part is one
  pub devices : (x : ℕ) → x < length done → plans.is_device (node plan (x + 1)) ≡ is_device (get_or done x concentrator)
  -- no limited concentrator stands above a limited one
  pub one_limit : OneLimit plan
  -- what holds of a plan all along holds, where no phase may have changes yet
  pub holds : Holds 0 plan

nothing_at : (x : ℕ) → node_at [] x ≡ Concentrator
nothing_at zero = refl
nothing_at (suc x) = refl

-- in a plan with the entries of a lawful tree the parent of each entry's node is an earlier node
pub earlier_of : (entries : List Entry) (plan : PlanData) → IsTree (parents_of entries) (leaves_of entries) → plan.entries ≡ entries →
    Earlier plan (length plan.entries)
earlier_of entries plan tree same x low high =
    subst (λ (l : List Entry). parent_of l x < x) (sym same)
    (tree.earlier x low (let long = length-parents_of entries in let e = ap (λ (l : List Entry). length l) same in omega arith))

no_elements : (P : List ℤ → Type 0) → All P []
no_elements P = λ k d inside. absurd (omega arith)

-- of the empty plan holds what holds once no node parts were taken
pub nothing_taken : (basis : BasisValue) (entries : List Entry) → IsBasis basis → NodesTaken entries [] (empty_plan basis entries)
nothing_taken basis entries sound =
    let plan = empty_plan basis entries in
    let none : (x : ℕ) → node plan x ≡ Concentrator = nothing_at in
    record {
      same_entries = refl;
      many = refl;
      no_minutes = refl;
      unchanged = λ x. ap changes_of (none x);
      devices = λ x inside. absurd (omega arith);
      one_limit = λ x inside bounded. absurd (cc (sym (ap (λ (n : NodeData). is_some (limits_of n)) (none x)) ∙ bounded));
      holds = record {
        basis = sound;
        arrays = record { steps = no_elements _; fall = no_elements _; within = no_elements _ };
        nodes = λ x. subst (NodeHolds 0) (sym (none x)) tt;
      };
    }

-- a node part of a list with one more is an old one or the new one
part_before : (done : List NodePart) (part : NodePart) (x : ℕ) → x < length done →
    get_or (done ++ part ∷ []) x concentrator ≡ get_or done x concentrator
part_before done part x inside = get_or-append done (part ∷ []) concentrator x inside

part_here : (done : List NodePart) (part : NodePart) (x : ℕ) → x ≡ length done → get_or (done ++ part ∷ []) x concentrator ≡ part
part_here done part x is = ap (λ m. get_or (done ++ part ∷ []) m concentrator) is ∙ get_or-append_seam done part [] concentrator

devices_with : (entries : List Entry) (done : List NodePart) (plan : PlanData) (part : NodePart) (new : NodeData) → NodesTaken entries done plan →
    plans.is_device new ≡ is_device part →
    (x : ℕ) → x < length (done ++ part ∷ []) → plans.is_device (node (with_node plan new) (x + 1))
    ≡ is_device (get_or (done ++ part ∷ []) x concentrator)
devices_with entries done plan part new before one x inside =
    let long = length-append done (part ∷ []) in
    let many = before.many in
    elim (cases_lt x (length done)) [
      | inl old ↦
          ap plans.is_device (node-old plan new (x + 1) (omega arith))
          ∙ before.devices x old ∙ ap is_device (sym (part_before done part x old))
      | inr late ↦
          let here : x ≡ length done = omega arith in
          let place : x + 1 ≡ length plan.nodes + 1 = omega arith in
          ap (λ y. plans.is_device (node (with_node plan new) y)) place ∙ ap plans.is_device (node-new plan new)
          ∙ one ∙ ap is_device (sym (part_here done part x here))
    ]

limited_old : (plan : PlanData) (new : NodeData) (y : ℕ) → y < length plan.nodes + 1 → is_limited (with_node plan new) y ≡ is_limited plan y
limited_old plan new y inside = ap (λ (n : NodeData). is_some (limits_of n)) (node-old plan new y (omega arith))

one_limit_with : (entries : List Entry) (done : List NodePart) (plan : PlanData) (part : NodePart) (new : NodeData) →
    Earlier plan (length plan.entries) → NodesTaken entries done plan → (is_some (limits_of new) ≡ true → group plan (length done + 1) ≡ 0) →
    OneLimit (with_node plan new)
one_limit_with entries done plan part new earlier before one x inside bounded =
    let many = before.many in
    elim (cases_lt (length plan.nodes) x) [
      | inr old ↦
          group-same plan (with_node plan new) (length plan.entries) (length plan.nodes + 1) x refl earlier (limited_old plan new) inside (omega arith)
          ∙ before.one_limit x inside (sym (limited_old plan new x (omega arith)) ∙ bounded)
      | inl late ↦ elim (cases_lt (length plan.nodes + 1) x) [
        | inl far ↦
            let long = length-append plan.nodes (new ∷ []) in
            absurd (cc (sym (ap (λ (n : NodeData). is_some (limits_of n)) (node-beyond (plan.nodes ++ new ∷ []) x (omega arith))) ∙ bounded))
        | inr near ↦
            let place : x ≡ length plan.nodes + 1 = omega arith in
            let number : x ≡ length done + 1 = omega arith in
            let has : is_some (limits_of new) ≡ true = ap (λ (n : NodeData). is_some (limits_of n)) (sym (node-new plan new))
            ∙ ap (is_limited (with_node plan new)) (sym place) ∙ bounded in
            group-same plan (with_node plan new) (length plan.entries) (length plan.nodes + 1) x refl earlier (limited_old plan new) inside (omega arith)
            ∙ ap (group plan) number ∙ one has
      ]
    ]

-- one more node
node_taken : (entries : List Entry) (done : List NodePart) (plan : PlanData) (part : NodePart) (new : NodeData) → Earlier plan (length plan.entries) →
    NodesTaken entries done plan → NodeHolds 0 new → changes_of new ≡ [] →
    plans.is_device new ≡ is_device part → (is_some (limits_of new) ≡ true → group plan (length done + 1) ≡ 0) →
    NodesTaken entries (done ++ part ∷ []) (with_node plan new)
node_taken entries done plan part new earlier before hold none kind one =
    let many = before.many in
    record {
      same_entries = before.same_entries;
      many = length-append plan.nodes (new ∷ []) ∙ ap (λ n. n + 1) many ∙ sym (length-append done (part ∷ []));
      no_minutes = before.no_minutes;
      unchanged = each_with_node (λ n. changes_of n ≡ []) plan new before.unchanged none;
      devices = devices_with entries done plan part new before kind;
      one_limit = one_limit_with entries done plan part new earlier before one;
      holds = record {
        basis = before.holds.basis;
        arrays = record { steps = before.holds.arrays.steps; fall = before.holds.arrays.fall; within = before.holds.arrays.within };
        nodes = each_with_node (NodeHolds 0) plan new before.holds.nodes hold;
      };
    }

-- other arrays change nothing else
arrays_taken : (entries : List Entry) (done : List NodePart) (plan : PlanData) (arrays : List (List ℤ)) →
    NodesTaken entries done plan → AreArrays (record plan { arrays = arrays }) → NodesTaken entries done (record plan { arrays = arrays })
arrays_taken entries done plan arrays before all = record {
  same_entries = before.same_entries;
  many = before.many;
  no_minutes = before.no_minutes;
  unchanged = before.unchanged;
  devices = before.devices;
  one_limit = λ x inside bounded.
      group-same_all plan (record plan { arrays = arrays }) x refl (λ y. refl) ∙ before.one_limit x inside bounded;
  holds = record { basis = before.holds.basis; arrays = all; nodes = before.holds.nodes };
}

limits-are : (limits : Limits) → are_limits limits ≡ true → AreLimits limits
limits-are limits h =
    let each = both_true (is_between (neg_ℤ (pos sum_limit)) (pos 0) limits.floor) (is_between (pos 0) (pos sum_limit) limits.ceiling) h in
    let low = is_between-tells (neg_ℤ (pos sum_limit)) (pos 0) limits.floor each.0 in
    let high = is_between-tells (pos 0) (pos sum_limit) limits.ceiling each.1 in
    record {
      floor_not_positive = low.to;
      ceiling_not_negative = high.from;
      floor_within = record { low = low.from; high = omega (arith, ints) };
      ceiling_within = record { low = omega (arith, ints); high = high.to };
    }

is_zero : (n : ℕ) → (n == 0) ≡ true → n ≡ 0
is_zero n h = grind (arith, nat_tests)

abbrev limits_from : ℤ → ℤ → Limits
limits_from floor ceiling = record { floor = floor; ceiling = ceiling }

abbrev new_device : Kind → ℤ → DeviceData
new_device kind start = record { kind = kind; start = start; changes = [] }

-- a node part that is not refused
add_taken : (entries : List Entry) → IsTree (parents_of entries) (leaves_of entries) →
    (done : List NodePart) (plan made : PlanData) (part : NodePart) → NodesTaken entries done plan →
    add_node (length done + 1) plan part ≡ Ok made → NodesTaken entries (done ++ part ∷ []) made
unfolding add_node
add_taken entries tree done plan made concentrator before h =
    subst (NodesTaken entries (done ++ concentrator ∷ [])) (ok-is (with_node plan Concentrator) made h)
    (node_taken entries done plan concentrator Concentrator (earlier_of entries plan tree before.same_entries) before tt refl refl (λ has. absurd (cc has)))
add_taken entries tree done plan made (limited floor ceiling) before h =
    let limits = limits_from floor ceiling in
    let bounds = check-ok cause.OutsideLimits (Node (length done + 1)) (are_limits limits) _ made h in
    let alone = check-ok cause.LimitedTwice (Node (length done + 1)) (group plan (length done + 1) == 0) _ made bounds.rest in
    subst (NodesTaken entries (done ++ limited floor ceiling ∷ [])) (ok-is (with_node plan (Limited limits)) made alone.rest)
    (node_taken entries done plan (limited floor ceiling) (Limited limits) (earlier_of entries plan tree before.same_entries) before
    (limits-are limits bounds.holds) refl refl (λ has. is_zero (group plan (length done + 1)) alone.holds))
add_taken entries tree done plan made (device kind start) before h =
    let place = Node (length done + 1) in
    let valid = check-ok cause.OutsideLimits place (is_valid kind) _ made h in
    let state = bind-ok (state_of place kind plan start) (λ s. Ok (with_node s.1 (Device (new_device kind s.0)))) made valid.rest in
    let facts = state-made place kind plan start state.value before.holds.basis before.holds.arrays state.first in
    let middle = subst (NodesTaken entries done) (sym facts.is) (arrays_taken entries done plan facts.arrays before facts.bids) in
    let new = Device (new_device kind state.value.0) in
    let hold : NodeHolds 0 new = record { valid = valid.holds; start = facts.fits; changes = no_changes-hold kind 0 } in
    subst (NodesTaken entries (done ++ device kind start ∷ [])) (ok-is (with_node state.value.1 new) made state.rest)
    (node_taken entries done state.value.1 (device kind start) new (earlier_of entries state.value.1 tree middle.same_entries) middle hold refl refl
    (λ has. absurd (cc has)))

-- of the plan that node parts give holds what holds once these were taken
pub nodes_taken : (basis : BasisValue) (entries : List Entry) (parts : List NodePart) (plan : PlanData) → IsBasis basis →
    IsTree (parents_of entries) (leaves_of entries) → fold_from 1 add_node (empty_plan basis entries) parts ≡ Ok plan → NodesTaken entries parts plan
nodes_taken basis entries parts plan sound tree h =
    fold_keeps (NodesTaken entries) add_node (λ done s t x. add_taken entries tree done s t x) [] parts
    (empty_plan basis entries) plan (nothing_taken basis entries sound) h

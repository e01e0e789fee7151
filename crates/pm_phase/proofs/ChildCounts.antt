-- How many children a node has when it starts, read of its plan.
use Rattle.std.proofs.Common.{◌≡◌, ℕ, zero, suc, ◌<◌, ◌≤◌, List, length, take, eqb, refl, sym, ap, ◌∙◌, arith}
use Rattle.std.proofs.Math.Seq.{take-length}
use Rattle.std.proofs.lemmas.List.{length-map}
use Rattle.std.proofs.lemmas.List.Sums.{count_by-le-length}
use Rattle.pm_base.specs.Limits.{most_nodes}
use Rattle.pm_plan.specs.Kept.{IsPlan}
use Rattle.pm_plan.specs.Plans.{PlanData}
use Rattle.pm_tree.specs.declared.node.NodeId.{NodeId}
use Rattle.pm_tree.specs.Entries.{Entry, children_of, parents_of}
use Rattle.pm_tree.specs.Shape.{children_at}
use Rattle.pm_tree.specs.Tables.{id_numbers}
use Rattle.pm_tree.proofs.Named.{length-parents_of}
use Rattle.pm_tree.proofs.Places.{child_entry}
use Rattle.pm_tree.proofs.Ranges.{length-children_among}
use Rattle.pm_phase.specs.Matchers.{child_count}

-- a node has no more children than a plan has nodes
pub has_few_children : (plan : PlanData) (x : ℕ) → IsPlan plan → child_count plan x ≤ most_nodes
unfolding children_at
has_few_children plan x is_plan =
    let parents : List ℕ = parents_of plan.entries in
    omega (
      arith,
      length-children_among parents x (length parents) (omega arith),
      ap length (take-length parents),
      count_by-le-length (λ (parent : ℕ). eqb parent x) (take (length parents) parents),
      length-parents_of plan.entries,
      is_plan.nodes.one_each,
      is_plan.nodes.few,
    )

-- as many children as there are identities of them
pub ids_are_counted : (entries : List Entry) (x : ℕ) (ids : List NodeId) → id_numbers ids ≡ children_of entries x
    → length ids ≡ length (children_of entries x)
ids_are_counted entries x ids same = sym (length-map ids (λ (id : NodeId). id.0)) ∙ ap length same

zero_unless : (n : ℕ) → (0 < n → ⊥) → n ≡ 0
zero_unless zero never = refl
zero_unless (suc n) never = absurd (never (omega arith))

-- past the last node there are no children
pub child_count-past : (plan : PlanData) (x : ℕ) → IsPlan plan → length plan.entries < x → child_count plan x ≡ 0
child_count-past plan x is_plan past =
    zero_unless (child_count plan x) (λ some.
    let child = child_entry plan.entries x 0 some in
    let count = length-parents_of plan.entries in
    omega (arith, past, child.1, child.2, is_plan.tree.earlier _ child.0 (omega (arith, child.1, count))))

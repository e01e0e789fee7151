-- The changes of a device by their numbers, and how many there are.
use Rattle.std.proofs.Common.{◌≡◌, ◌∙◌, ap, ℕ, zero, suc, ◌+◌, ◌<◌, ◌≤◌, List, [], ◌∷◌}
use Rattle.std.proofs.Common.{length, get_or, arith, refl}
use Rattle.std.specs.Prelude.{Some}
use Rattle.std.proofs.lemmas.List.Sums.{sum_by-cons}
use Rattle.pm_base.specs.Limits.{most_changes}
use Rattle.pm_plan.specs.declared.planned.Change.{Change}
use Rattle.pm_plan.specs.Plans.{PlanData, NodeData, node, node_at, changes_of, change_count, all_changes, planned_change, planned_change_at}
use Rattle.pm_plan.specs.Kept.{IsPlan, no_change, change_at}

-- the change with the number n + 1
planned_change_at-is : (changes : List Change) (n : ℕ) → n < length changes → planned_change_at changes n ≡ Some (get_or changes n no_change).what
planned_change_at-is [] n inside = absurd (omega arith)
planned_change_at-is (c ∷ cs) zero inside = refl
planned_change_at-is (c ∷ cs) (suc n) inside = planned_change_at-is cs n (omega arith)

-- change number n + 1 of a device, where it has so many, is that at place n, counted from 0
pub planned_change-is : (plan : PlanData) (d n : ℕ) → n < change_count plan d → planned_change plan d (n + 1) ≡ Some (change_at plan d n).what
planned_change-is plan d n inside = (let e : n + 1 ≡ suc n = omega arith in ap (planned_change plan d) e)
    ∙ planned_change_at-is (changes_of (node plan d)) n inside

-- no device has more changes than all devices have
few_of : (nodes : List NodeData) (x : ℕ) → length (changes_of (node_at nodes x)) ≤ all_changes nodes
few_of nodes zero = omega arith
few_of [] (suc x) = omega arith
few_of (n ∷ ns) (suc zero) = omega (arith, sum_by-cons (λ (m : NodeData). length (changes_of m)) n ns)
few_of (n ∷ ns) (suc (suc x)) = omega (arith, sum_by-cons (λ (m : NodeData). length (changes_of m)) n ns, few_of ns (suc x))

-- no device has more changes than a run may have
pub few_changes : (plan : PlanData) (d : ℕ) → IsPlan plan → change_count plan d ≤ most_changes
few_changes plan d is = omega (arith, few_of plan.nodes d, is.within.few_changes)

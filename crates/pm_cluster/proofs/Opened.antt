-- What opening reads of a plan.
use Rattle.std.proofs.Common.{◌≡◌, sym, ap, ℕ, ◌-◌, ◌≤◌, ℤ, List, length, take, Option, Some, None, false, refl, arith, eqb}
use Rattle.std.specs.Prelude.{option_map}
use Rattle.std.proofs.Math.Seq.{take-length}
use Rattle.std.proofs.lemmas.List.Sums.{count_by-le-length}
use Rattle.pm_base.specs.Limits.{most_nodes}
use Rattle.pm_base.specs.declared.limits.Limits.{Limits}
use Rattle.pm_tree.specs.Entries.{children_of, parents_of}
use Rattle.pm_tree.specs.Shape.{children_at}
use Rattle.pm_tree.proofs.Named.{length-parents_of}
use Rattle.pm_tree.proofs.Ranges.{length-children_among}
use Rattle.pm_market.specs.Lists.{IsNode, IsLeaf}
use Rattle.pm_market.proofs.Tree.{leaf_node}
use Rattle.pm_plan.specs.Kept.{IsPlan}
use Rattle.pm_plan.specs.Plans.{PlanData, end_cut, is_member}
use Rattle.pm_plan.specs.Market.{plan_lists}
use Rattle.pm_plan.proofs.Ends.{end-none}
use Rattle.pm_plan.proofs.MarketLists.{lawful}

-- a device is among the nodes
pub device_node : (plan : PlanData) (d : ℕ) → IsPlan plan → IsLeaf (plan_lists plan) d → IsNode (plan_lists plan) d
device_node plan d is_plan leaf = leaf_node (plan_lists plan) (lawful plan is_plan) d leaf

-- the changes of the first phase are those up to its end
pub first_changes : (plan : PlanData) (d : ℕ) → IsPlan plan → end_cut plan 1 d - end_cut plan 0 d ≡ end_cut plan 1 d
first_changes plan d is_plan = omega (arith, end-none plan d is_plan.in_phases)

-- a node has few children
pub few_children : (plan : PlanData) (y : ℕ) → IsPlan plan → length (children_of plan.entries y) ≤ most_nodes
unfolding children_at
few_children plan y is_plan =
    let parents : List ℕ = parents_of plan.entries in
    let counted = length-children_among parents y (length parents) (omega arith) in
    let all = ap length (take-length parents) in
    omega (
      arith,
      counted,
      all,
      count_by-le-length (λ (p : ℕ). eqb p y) (take (length parents) parents),
      length-parents_of plan.entries,
      is_plan.nodes.one_each,
      is_plan.nodes.few,
    )

-- the limits that were read are those of the node
pub limits_read : (o : Option Limits) (floor ceiling : ℤ) →
    ◌≡◌ {A = Option (ℤ × ℤ)} (Some (floor, ceiling)) (option_map (λ (l : Limits). (l.floor, l.ceiling)) o) →
    o ≡ Some (record { floor = floor; ceiling = ceiling })
limits_read None floor ceiling e = (cc)
limits_read (Some l) floor ceiling e =
    let of : Option (ℤ × ℤ) → Limits = λ o. unwrap_limits o l in
    ap (λ (o : Option (ℤ × ℤ)). Some (of o)) (sym e)
  where
    unwrap_limits : Option (ℤ × ℤ) → Limits → Limits
    unwrap_limits None other = other
    unwrap_limits (Some q) other = record { floor = q.0; ceiling = q.1 }

-- before its first change a device is no member
pub no_member : (plan : PlanData) (d : ℕ) → false ≡ is_member plan d 0
unfolding is_member
no_member plan d = refl

-- Of `Plan::bound`: what it ensures; that its numbers fit.
use Rattle.std.proofs.Common.{◌∙◌, ap, ◌+◌, arith, length, mul-le-mul, rules, subst}
use Rattle.pm_base.specs.Limits.{most_changes}
use Rattle.pm_plan.specs.Plans.{PlanData, phases}
use Rattle.pm_plan.specs.Kept.{IsPlan}
use Rattle.pm_plan.proofs.plan.Plan.bound.Goals as goal

pub overflow_mul-result : goal.overflow_mul-result
overflow_mul-result c =
    let is = subst IsPlan c.self.view_is c.self.invariant in
    let nodes = c.node_count.ensures ∙ ap (λ (p : PlanData). length p.nodes) c.self.view_is in
    let few = mul-le-mul {n₁ = c.changes.result} {m₁ = c.node_count.result + 15} {n₂ = most_changes} {m₂ = 271}
    (omega (arith, c.changes.ensures, is.within.few_changes)) (omega (arith, nodes, is.nodes.few)) in
    omega (arith, few)

pub overflow_add-result-2 : goal.overflow_add-result-2
overflow_add-result-2 c =
    let is = subst IsPlan c.self.view_is c.self.invariant in
    let nodes = c.node_count.ensures ∙ ap (λ (p : PlanData). length p.nodes) c.self.view_is in
    let few = mul-le-mul {n₁ = c.changes.result} {m₁ = c.node_count.result + 15} {n₂ = most_changes} {m₂ = 271}
    (omega (arith, c.changes.ensures, is.within.few_changes)) (omega (arith, nodes, is.nodes.few)) in
    omega (arith, few, c.phase_count.ensures ∙ ap phases c.self.view_is, is.within.few_phases)

pub returns : goal.returns
returns c = search rules

-- Of `add_state`: what it ensures; what the call of `plan` requires.
use Rattle.std.proofs.Common.{◌∙◌, sym, ap, ℤ, List, length, Some, arith, rules}
use Rattle.pm_base.proofs.Outcomes.{Refuses-first}
use Rattle.pm_plan.specs.declared.refusal.PlanFault.TheVariants.{NoMemory}
use Rattle.pm_plan.specs.Plans.{NodeData}
use Rattle.pm_plan.specs.Building.{event_of}
use Rattle.pm_plan.proofs.Folds.{step-err}
use Rattle.pm_plan.proofs.building.events.add_state.Goals as goal

pub returns-in_err-device : goal.returns-in_err-device
unfolding event_of
returns-in_err-device c = step-err _ _ _ _ _ _ _ c.from_residual.ensures.1 (Refuses-first (Some _) _ _ (sym c.in_err-device.ensures.device))

pub returns-in_err-number : goal.returns-in_err-number
unfolding event_of
returns-in_err-number c =
    step-err _ _ _ _ _ _ _ c.from_residual-in_err-number.ensures.1
    (rw (← c.in_ok-device.ensures.device, c.kind-kind.ensures) (Refuses-first _ _ _ c.in_err-number.ensures.made))

pub returns-in_err-plan : goal.returns-in_err-plan
returns-in_err-plan c = step-err _ NoMemory _ _ _ _ _ c.from_residual-in_err-plan.ensures.1 tt

pub plan-requires-clause-last : goal.plan-requires-clause-last
plan-requires-clause-last c = omega (arith, c.in_ok-device.ensures.inside.1, ap (λ (l : List NodeData). length l) c.in_ok-number.ensures.nodes)

pub returns : goal.returns
unfolding event_of
returns c = record {
  made = rw (← c.in_ok-device.ensures.device, c.kind-kind.ensures, c.in_ok-number.ensures.made, c.in_ok-plan.ensures.planned) (search rules);
  entries = c.plan.ensures.entries ∙ c.in_ok-number.ensures.entries;
  nodes = c.plan.ensures.nodes ∙ ap (λ (l : List NodeData). length l) c.in_ok-number.ensures.nodes;
  arrays = omega (arith, ap (λ (l : List (List ℤ)). length l) c.plan.ensures.arrays, c.in_ok-number.ensures.arrays);
}

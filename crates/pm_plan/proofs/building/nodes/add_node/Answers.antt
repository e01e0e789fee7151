-- Of `add_node`: its clause `made`.
use Rattle.std.proofs.Common.{◌≡◌, ◌∙◌, sym, refl, arith, rules, true}
use Rattle.std.proofs.lemmas.Grind.{common_steps}
use Rattle.pm_base.proofs.Outcomes.{Refuses-first}
use Rattle.pm_plan.specs.declared.refusal.PlanFault.TheVariants.{NoMemory}
use Rattle.pm_plan.specs.Building.{add_node, are_limits}
use Rattle.pm_plan.proofs.Folds.{step-err, node-taken}
use Rattle.pm_plan.proofs.building.nodes.add_node.Goals as goal

pub returns-in_err-push_node-in-Concentrator : goal.returns-in_err-push_node-in-Concentrator
returns-in_err-push_node-in-Concentrator c = step-err _ NoMemory _ _ _ _ _ c.from_residual.ensures.1 tt

pub returns-then-not-are_limits-clause-made : goal.returns-then-not-are_limits-clause-made
unfolding add_node
returns-then-not-are_limits-clause-made c = grind (arith, common_steps)

pub returns-in_err-push_node-in-Limited : goal.returns-in_err-push_node-in-Limited
returns-in_err-push_node-in-Limited c = step-err _ NoMemory _ _ _ _ _ c.from_residual-in_err-push_node-in-Limited.ensures.1 tt

pub returns-then-not-valid-clause-made : goal.returns-then-not-valid-clause-made
unfolding add_node
returns-then-not-valid-clause-made c = rw (c.in-Device.is, sym c.valid.ensures.valid ∙ c.if-not-valid.true, c.at-then-not-valid.ensures) refl

pub returns-in_err-state-in-Device : goal.returns-in_err-state-in-Device
unfolding add_node
returns-in_err-state-in-Device c =
    step-err _ _ _ _ _ _ _ c.from_residual-in_err-state-in-Device.ensures.1
    (rw (c.in-Device.is, sym c.valid.ensures.valid ∙ c.if-not-valid.false) (Refuses-first _ _ _ c.in_err-state-in-Device.ensures.made))

pub returns-in_err-push_node-in-Device : goal.returns-in_err-push_node-in-Device
returns-in_err-push_node-in-Device c = step-err _ NoMemory _ _ _ _ _ c.from_residual-in_err-push_node-in-Device.ensures.1 tt

-- a floor and a ceiling under no limited concentrator pass both tests
limits_pass : (c : goal.In_ok-push_node-in-Limited) → are_limits (record { floor = c.in-Limited.floor; ceiling = c.in-Limited.ceiling }) ≡ true
limits_pass c = search rules

pub returns-in_ok-push_node-in-Concentrator : goal.returns-in_ok-push_node-in-Concentrator
unfolding add_node
returns-in_ok-push_node-in-Concentrator c =
    let plan = c.args.draft.now in
    node-taken plan plan _ _ _ c.in_ok-push_node-in-Concentrator.ensures (rw c.in-Concentrator.is refl) refl refl (omega arith)

pub returns-in_ok-push_node-in-Limited : goal.returns-in_ok-push_node-in-Limited
unfolding add_node
returns-in_ok-push_node-in-Limited c =
    let plan = c.args.draft.now in
    node-taken plan plan _ _ _ c.in_ok-push_node-in-Limited.ensures
    (rw (c.in-Limited.is, limits_pass c, sym c.is_under_no_limit.ensures ∙ c.if-not-is_under_no_limit.false) (search rules)) refl refl (omega arith)

pub returns-in_ok-push_node-in-Device : goal.returns-in_ok-push_node-in-Device
unfolding add_node
returns-in_ok-push_node-in-Device c =
    let state = c.in_ok-state-in-Device.ensures in
    node-taken c.args.draft.now _ _ _ _ c.in_ok-push_node-in-Device.ensures
    (rw (c.in-Device.is, sym c.valid.ensures.valid ∙ c.if-not-valid.false, state.made) (search rules)) state.entries state.nodes state.arrays

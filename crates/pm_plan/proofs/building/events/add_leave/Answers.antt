-- Of `add_leave`: its clause `made`.
use Rattle.std.proofs.Common.{sym, refl, Some}
use Rattle.pm_base.proofs.Outcomes.{Refuses-first}
use Rattle.pm_plan.specs.declared.refusal.PlanFault.TheVariants.{NoMemory}
use Rattle.pm_plan.specs.Building.{event_of}
use Rattle.pm_plan.proofs.Folds.{Makes-err}
use Rattle.pm_plan.proofs.building.events.add_leave.Goals as goal

pub returns-in_err-device-clause-made : goal.returns-in_err-device-clause-made
unfolding event_of
returns-in_err-device-clause-made c =
    Makes-err _ _ _ _ c.from_residual.ensures.1 (Refuses-first (Some _) _ _ (sym c.in_err-device.ensures.device))

pub returns-in_err-plan-clause-made : goal.returns-in_err-plan-clause-made
returns-in_err-plan-clause-made c = Makes-err _ NoMemory _ _ c.from_residual-in_err-plan.ensures.1 tt

pub returns-clause-made : goal.returns-clause-made
unfolding event_of
returns-clause-made c = rw (← c.in_ok-device.ensures.device, c.in_ok-plan.ensures.planned) refl

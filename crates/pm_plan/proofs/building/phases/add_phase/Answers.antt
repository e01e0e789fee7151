-- Of `add_phase`: what it ensures.
use Rattle.pm_base.proofs.Outcomes.{Refuses-first}
use Rattle.pm_plan.specs.Building.{add_phase}
use Rattle.pm_plan.proofs.Folds.{step-err}
use Rattle.pm_plan.proofs.building.phases.add_phase.Goals as goal

pub returns-in_err-take_phase : goal.returns-in_err-take_phase
unfolding add_phase
returns-in_err-take_phase c = step-err _ _ _ _ _ _ _ c.from_residual.ensures.1 (Refuses-first _ _ _ c.in_err-take_phase.ensures.made)

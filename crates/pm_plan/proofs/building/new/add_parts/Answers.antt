-- Of `add_parts`: what it ensures.
use Rattle.std.proofs.Common.{sym, subst, map, List, Result}
use Rattle.pm_plan.specs.declared.refusal.Refusal.{Refusal}
use Rattle.pm_plan.specs.Plans.{PlanData}
use Rattle.pm_plan.specs.Parts.{PhasePart, node_part, phase_part}
use Rattle.pm_plan.specs.Building.{add_node, add_phase}
use Rattle.pm_plan.specs.Refusals.{Makes}
use Rattle.pm_base.specs.Outcomes.{◌>>=◌, fold_from}
use Rattle.pm_base.proofs.Outcomes.{Refuses-first}
use Rattle.pm_plan.proofs.Folds.{Makes-err}
use Rattle.pm_plan.proofs.building.new.add_parts.Goals as goal

pub returns-in_err-add_nodes : goal.returns-in_err-add_nodes
returns-in_err-add_nodes c =
    Makes-err _ _ _ _ c.from_residual.ensures.1
    (Refuses-first _ (fold_from 1 add_node c.args.draft.now (map node_part c.args.nodes.now))
    (λ plan. fold_from 1 add_phase plan (map phase_part c.args.phases.now)) c.in_err-add_nodes.ensures.made)

pub returns : goal.returns
returns c =
    let phases : List PhasePart = map phase_part c.args.phases.now in
    subst (λ (read : Result PlanData Refusal). Makes c.add_phases.result c.add_phases.new.draft (read >>= λ plan. fold_from 1 add_phase plan phases))
    (sym c.in_ok-add_nodes.ensures.made) c.add_phases.ensures

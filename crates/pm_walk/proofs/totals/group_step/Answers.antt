-- Of `group_step`: its clause `step`.
use Rattle.std.proofs.Common.{sym}
use Rattle.pm_plan.specs.States.{state}
use Rattle.pm_walk.specs.Standing.{cut_made}
use Rattle.pm_plan.proofs.EndLines.{limited_step, free_step}
use Rattle.pm_walk.proofs.totals.group_step.Goals as goal

pub returns-in-Some-clause-step : goal.returns-in-Some-clause-step
returns-in-Some-clause-step c =
    limited_step c.args.plan.now (state c.args.plan.now)
    (cut_made c.args.standing.now.progress) c.args.step c.args.group.0 c.in-Some.limits c.sum.result.now c.step_within.result
    (sym c.in-Some.ensures) c.sum.ensures.sum c.step_within.ensures.step

pub returns-in-None-clause-step : goal.returns-in-None-clause-step
returns-in-None-clause-step c =
    free_step c.args.plan.now (state c.args.plan.now) (cut_made c.args.standing.now.progress) c.args.step c.args.group.0 (sym c.in-None.ensures)

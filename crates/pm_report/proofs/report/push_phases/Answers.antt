-- Of `push_phases`: what the call of `push_phase` requires; the turns of its loop over `before`.
use Rattle.pm_report.specs.Report.{IsEndOf}
use Rattle.pm_report.proofs.Reports.{next_phase, end_at}
use Rattle.pm_report.proofs.report.push_phases.Goals as goal

pub push_phase-requires : goal.push_phase-requires
push_phase-requires c =
    end_at (IsEndOf c.args.plan.now) c.args.ends.now c.loop-before.before c.index-ends-before.result c.requires.of_plan
    c.loop-before-test.true c.index-ends-before.is

pub loop-before-preserved : goal.loop-before-preserved
loop-before-preserved c =
    next_phase c.args.plan.now c.args.ends.now c.loop-before.before c.index-ends-before.result _ _ _ c.loop-before-test.true c.index-ends-before.is
    c.loop-before.invariant c.in_ok-push_phase.ensures

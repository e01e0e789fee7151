-- Of `Run::start`: what it ensures.
use Rattle.std.proofs.Common.{◌≡◌}
use Rattle.pm_plan.specs.Plans.{end_cut}
use Rattle.pm_walk.specs.declared.run.Run.{Run}
use Rattle.pm_walk.specs.Standing.{cut_made}
use Rattle.pm_walk.specs.Runs.{IsRun, IsAtEnd}
use Rattle.pm_walk.proofs.Phases.{none_made, if_both, run_at}
use Rattle.pm_walk.proofs.run.Run.start.Goals as goal

pub returns : goal.returns
returns c =
    let plan = c.args.plan.now in
    let standing = c.in_ok-standing.standing in
    let cut : cut_made standing.progress ≡ end_cut plan 0 =
    none_made plan (cut_made standing.progress) c.in_ok-standing.ensures.stands.sound c.in_ok-standing.ensures.none in
    if_both (IsRun plan) (λ (run : Run). run.standing ≡ standing) (IsAtEnd plan 0) (run_at plan 0 standing cut) c.over.result
    c.over.ensures.run c.over.ensures.standing

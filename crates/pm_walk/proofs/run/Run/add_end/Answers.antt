-- Of `Run::add_end`: its clause `ends`.
use Rattle.std.proofs.Common.{◌∙◌, ap, sym, subst, List}
use Rattle.pm_plan.specs.Ends.{EndValue}
use Rattle.pm_plan.specs.States.{end_of}
use Rattle.pm_walk.specs.Runs.{AreEnds}
use Rattle.pm_walk.proofs.Phases.{ends_more}
use Rattle.pm_walk.proofs.run.Run.add_end.Goals as goal

pub returns-clause-ends : goal.returns-clause-ends
returns-clause-ends c =
    let plan = c.args.plan.now in
    subst (λ (ends : List EndValue). AreEnds plan c.args.phase ends) (sym {A = List EndValue} c.in_ok-push.ensures.items)
    (ends_more plan c.args.phase c.args.ends.now.items c.in_ok-end.field-0 c.requires.first c.requires.ends
    (c.in_ok-end.ensures ∙ ap (end_of plan) c.pass.ensures.cut))

-- Of `end_of_cut`: what it ensures.
use Rattle.std.proofs.Common.{◌≡◌, ◌∙◌, ap, subst}
use Rattle.std.specs.Prelude.{IfOk}
use Rattle.pm_plan.specs.Ends.{EndValue}
use Rattle.pm_base.specs.Cuts.{Cut}
use Rattle.pm_plan.specs.States.{end_of}
use Rattle.pm_walk.specs.Cuts.{file_cut}
use Rattle.pm_walk.specs.Standing.{StandingValue, cut_made}
use Rattle.pm_walk.proofs.run.end_of_cut.Goals as goal

pub returns : goal.returns
returns c =
    let over : cut_made c.in_ok-over.field-0.standing.progress ≡ file_cut c.args.cut.now =
    ap (λ (s : StandingValue). cut_made s.progress) c.in_ok-over.ensures.standing ∙ c.in_ok-standing.ensures.cut in
    subst (λ (k : Cut). IfOk c.end.result (λ (e : EndValue). e.end ≡ end_of c.args.plan.now k)) over c.end.ensures

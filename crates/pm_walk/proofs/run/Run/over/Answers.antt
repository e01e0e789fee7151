-- Of `Run::over`: what it ensures; what the call of `clear` requires.
use Rattle.std.proofs.Common.{◌∙◌, ap, refl, length}
use Rattle.std.proofs.lemmas.Result.{IfOk-from_err}
use Rattle.pm_bid.proofs.Sums.{length-zeros}
use Rattle.pm_walk.proofs.run.Run.over.Goals as goal

pub returns-in_err-clearing : goal.returns-in_err-clearing
returns-in_err-clearing c =
    let fails = c.from_residual.ensures.0 in
    record { run = IfOk-from_err c.from_residual.result _ fails; standing = IfOk-from_err c.from_residual.result _ fails }

pub returns-in_err-spare : goal.returns-in_err-spare
returns-in_err-spare c =
    let r = c.from_residual-in_err-spare.result in
    let fails = c.from_residual-in_err-spare.ensures.0 in
    record { run = IfOk-from_err r _ fails; standing = IfOk-from_err r _ fails }

pub clear-requires : goal.clear-requires
clear-requires c = record {
  stands = c.requires;
  room = c.in_ok-clearing.ensures;
  spare = ap (λ l. length l) c.in_ok-spare.ensures.bid ∙ length-zeros c.steps.result ∙ c.steps.ensures.steps ∙ ap (λ b. b.steps) c.basis.ensures.basis;
}

pub returns : goal.returns
returns c = record {
  run = record { stands = c.requires; clearing = c.clear.ensures.clearing; spare = c.clear.ensures.spare };
  standing = refl;
}

-- Of `end_of`: what it ensures.
use Rattle.std.proofs.Common.{◌∙◌, ap, rules}
use Rattle.std.proofs.lemmas.Int.{to_z-of_z}
use Rattle.std.proofs.lemmas.Result.{IfOk-from_err}
use mir.Syntax.{w64}
use mir.Val.{SFits}
use Rattle.pm_basis.specs.Prices.{price_at}
use Rattle.pm_walk.specs.Standing.{cut_made}
use Rattle.pm_plan.proofs.EndLines.{end_is}
use Rattle.pm_walk.proofs.lines.end_of.Goals as goal

pub returns : goal.returns
returns c =
    let fits : SFits w64 c.at.result = search rules in
    c.new.ensures
    ∙ end_is c.args.plan.now (cut_made c.args.standing.now.progress) c.args.clearing.now.step _ _ c.args.clearing.now.total _ _ c.requires.clearing.step
    (ap (λ b. price_at b c.args.clearing.now.step) c.basis.ensures.basis)
    (to_z-of_z w64 c.at.result fits ∙ c.at.ensures.demand) c.requires.clearing.total c.in_ok-members.ensures c.in_ok-limited.ensures

pub returns-in_err-members : goal.returns-in_err-members
returns-in_err-members c = IfOk-from_err c.from_residual.result _ c.from_residual.ensures.0

pub returns-in_err-limited : goal.returns-in_err-limited
returns-in_err-limited c = IfOk-from_err c.from_residual-in_err-limited.result _ c.from_residual-in_err-limited.ensures.0

-- Of `member_line`: what it ensures.
use Rattle.std.proofs.Common.{◌∙◌, ap, rules, get_or, pos}
use Rattle.std.proofs.lemmas.Int.{to_z-of_z}
use mir.Syntax.{w64}
use mir.Val.{SFits}
use Rattle.pm_plan.specs.States.{state}
use Rattle.pm_walk.specs.declared.changes.Progress.{Progress}
use Rattle.pm_walk.specs.Standing.{cut_made}
use Rattle.pm_plan.proofs.EndLines.{member_line_is}
use Rattle.pm_walk.proofs.lines.member_line.Goals as goal

pub returns : goal.returns
returns c =
    let fits : SFits w64 (get_or c.args.powers.now c.args.device.0 (pos 0)) = search rules in
    member_line_is c.args.plan.now (state c.args.plan.now) (cut_made c.args.standing.now.progress) c.args.device.0 _ _
    (to_z-of_z w64 (get_or c.args.powers.now c.args.device.0 (pos 0)) fits ∙ c.requires.powers.same c.args.device.0 c.requires.inside)
    (ap (λ (p : Progress). p.count) c.progress.ensures.progress)

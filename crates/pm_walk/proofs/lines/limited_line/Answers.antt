-- Of `limited_line`: what it ensures.
use Rattle.std.proofs.Common.{◌∙◌, rules}
use Rattle.std.proofs.lemmas.Int.{to_z-of_z}
use mir.Syntax.{w64}
use mir.Val.{SFits}
use Rattle.pm_plan.specs.States.{state}
use Rattle.pm_walk.specs.Standing.{cut_made}
use Rattle.pm_plan.proofs.EndLines.{limited_line_is}
use Rattle.pm_walk.proofs.lines.limited_line.Goals as goal

pub returns : goal.returns
returns c =
    let fits : SFits w64 c.at.result = search rules in
    limited_line_is c.args.plan.now (state c.args.plan.now) (cut_made c.args.standing.now.progress) c.args.at.0 _ c.sum.result.now _
    (c.requires.steps.same c.args.at.0 c.requires.inside) c.sum.ensures.sum
    (to_z-of_z w64 c.at.result fits ∙ c.at.ensures.demand)

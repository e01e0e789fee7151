-- Of `power_of`: what it ensures; what the call of `at` requires.
use Rattle.std.proofs.Common.{◌∙◌, arith, rules}
use Rattle.std.proofs.lemmas.Int.{to_z-of_z}
use mir.Syntax.{w64}
use mir.Val.{SFits}
use Rattle.pm_plan.specs.States.{state}
use Rattle.pm_walk.specs.Standing.{cut_made}
use Rattle.pm_plan.proofs.EndLines.{power_is}
use Rattle.pm_walk.proofs.totals.power_of.Goals as goal

pub at-requires : goal.at-requires
at-requires c = omega (arith, c.requires.steps.inside c.group_of.result c.group_of.ensures.inside, c.demand.ensures.steps)

pub returns : goal.returns
returns c =
    let fits : SFits w64 c.at.result = search rules in
    to_z-of_z w64 c.at.result fits
    ∙ power_is c.args.plan.now (state c.args.plan.now) (cut_made c.args.standing.now.progress) c.args.at.0 c.group_of.result _
    c.demand.result.now c.at.result c.group_of.ensures.group
    (c.requires.steps.same c.group_of.result c.group_of.ensures.inside) c.demand.ensures.demand c.at.ensures.demand

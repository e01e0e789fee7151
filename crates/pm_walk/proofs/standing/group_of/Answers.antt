-- Of `group_of`: its clause `inside`.
use Rattle.std.proofs.Common.{◌≤◌, sym, subst, ℕ, length}
use Rattle.pm_walk.proofs.Nodes.{group_found, group_inside}
use Rattle.pm_walk.proofs.standing.group_of.Goals as goal

pub returns-in-Some-clause-inside : goal.returns-in-Some-clause-inside
returns-in-Some-clause-inside c =
    let plan = c.args.plan.now in
    subst (λ (g : ℕ). g ≤ length plan.nodes)
    (sym (group_found plan c.args.at.0 c.group.result c.in-Some.above c.group.ensures.group c.in-Some.is))
    (group_inside plan c.args.at.0 c.group.ensures.sound c.requires)

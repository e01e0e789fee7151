-- Of `Standing::sum`: its clause `steps`.
use Rattle.pm_walk.proofs.Standings.{kept_sum}
use Rattle.pm_walk.proofs.standing.Standing.sum.Goals as goal

pub returns-clause-steps : goal.returns-clause-steps
returns-clause-steps c = kept_sum c.args.plan.now _ c.args.self.now c.args.group.0 _ c.self.view_is c.requires.stands c.requires.inside c.index.ensures

-- Of `Standing::demand`: its clause `steps`.
use Rattle.pm_walk.proofs.Standings.{kept_demand}
use Rattle.pm_walk.proofs.standing.Standing.demand.Goals as goal

pub returns-clause-steps : goal.returns-clause-steps
returns-clause-steps c = kept_demand c.args.plan.now _ c.args.self.now c.args.at.0 _ c.self.view_is c.requires.stands c.requires.inside c.index.ensures

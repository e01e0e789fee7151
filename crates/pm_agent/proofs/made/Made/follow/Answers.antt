-- Of `Made::follow`: its clause `made`; what the type keeps.
use Rattle.pm_agent.proofs.MadeLaws.{is_made}
use Rattle.pm_agent.proofs.made.Made.follow.Goals as goal

pub invariant_of-self : goal.invariant_of-self
invariant_of-self c =
    is_made c.args.next c.self.inside.kind c.fill_demand.new.out c.args.arrays.now _ c.fill_demand.ensures.steps
    c.fill_demand.ensures.demand

pub returns-clause-made : goal.returns-clause-made
returns-clause-made c =
    is_made c.args.next c.self.inside.kind c.fill_demand.new.out c.args.arrays.now _ c.fill_demand.ensures.steps
    c.fill_demand.ensures.demand

-- Of `Made::new`: its clause `made`; what the type keeps.
use Rattle.pm_agent.proofs.MadeLaws.{is_made}
use Rattle.pm_agent.proofs.made.Made.new.Goals as goal

pub invariant_of-result : goal.invariant_of-result
invariant_of-result c =
    is_made c.args.next c.args.kind c.fill_demand.new.out c.args.arrays.now _ c.fill_demand.ensures.steps
    c.fill_demand.ensures.demand

pub returns-clause-made : goal.returns-clause-made
returns-clause-made c =
    is_made c.args.next c.args.kind c.fill_demand.new.out c.args.arrays.now _ c.fill_demand.ensures.steps
    c.fill_demand.ensures.demand

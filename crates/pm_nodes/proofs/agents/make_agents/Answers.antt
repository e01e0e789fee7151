-- Of `make_agents`: the turns of its loop over `number`.
use Rattle.pm_nodes.proofs.DeviceAgents.{one_more}
use Rattle.pm_nodes.proofs.agents.make_agents.Goals as goal

pub loop-number-preserved : goal.loop-number-preserved
loop-number-preserved c =
    one_more c.args.plan.now c.loop-number.agents.items c.push.new.self.items _ c.loop-number.number c.loop-number.invariant c.in_ok-push.ensures.items
    c.in_ok-agent_of.ensures.agent c.in_ok-agent_of.ensures.none

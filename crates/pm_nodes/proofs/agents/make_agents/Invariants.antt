-- Of `make_agents`: what its loop over `number` keeps.
use Rattle.pm_nodes.proofs.DeviceAgents.{AreAgentsTo}
use Rattle.pm_nodes.proofs.agents.make_agents.Given as goal

abbrev pub invariant-loop-number : goal.invariant-loop-number
invariant-loop-number l = AreAgentsTo l.plan l.agents.items l.number

-- Of `change`: what the call of `make_change` requires.
use Rattle.pm_nodes.proofs.DeviceAgents.{agent_here}
use Rattle.pm_turns.proofs.one_thread.change.Goals as goal

pub make_change-requires-clause-its : goal.make_change-requires-clause-its
make_change-requires-clause-its g c κs within =
    agent_here c.args.board.now.plan c.args.agents.now c.args.next.device c.in-Some.agent.now c.index-agents-next.result
    (c.requires.agents c.args.next.device c.requires.leaf) c.in-Some.ensures.value

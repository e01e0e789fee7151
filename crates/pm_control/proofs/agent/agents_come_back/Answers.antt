-- Of `agents_come_back`: what it ensures.
use Rattle.std.proofs.Common.{ap, List}
use Rattle.pm_net.specs.Agents.{Offer, DeviceAgent}
use Rattle.pm_control.proofs.Kept.{newest_stored}
use Rattle.pm_control.proofs.agent.agents_come_back.Goals as goal

pub returns : goal.returns
returns c agent index' window = ap (λ (l : List Offer).
    let back : DeviceAgent = record { number = agent.number; answered = agent.number; offers = l; index = index' } in back) (newest_stored agent window)

-- Of `relays_are_left_alone`: what it ensures.
use Rattle.pm_net.specs.Events.{network_step}
use Rattle.pm_relay_net.proofs.Elsewhere.{same_elsewhere}
use Rattle.pm_relay_net.proofs.LeftAlone.{relay_stays}
use Rattle.pm_relay_net.proofs.relay.relays_are_left_alone.Goals as goal

pub returns : goal.returns
returns c lists p numbering net y r e is alike conc was at =
    relay_stays lists p numbering is alike net (network_step lists p net e) y r (same_elsewhere lists p net y e at) was

-- Of `roots_are_left_alone`: what it ensures.
use Rattle.pm_net.specs.Events.{network_step}
use Rattle.pm_relay_net.proofs.Elsewhere.{same_elsewhere}
use Rattle.pm_relay_net.proofs.LeftAlone.{root_stays}
use Rattle.pm_relay_net.proofs.root.roots_are_left_alone.Goals as goal

pub returns : goal.returns
returns c lists p numbering net r e is was at =
    root_stays lists p numbering is net (network_step lists p net e) r (same_elsewhere lists p net 0 e at) was

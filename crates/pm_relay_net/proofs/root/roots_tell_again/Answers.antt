-- Of `roots_tell_again`: what it ensures.
use Rattle.pm_relay_net.proofs.RootClearing as clearing
use Rattle.pm_relay_net.proofs.root.roots_tell_again.Goals as goal

pub returns : goal.returns
returns c lists p numbering net x r is node up was some same = clearing.tells lists p numbering is net r was x node up some same

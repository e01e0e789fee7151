-- Of `read_from_parent`: what it ensures.
use Rattle.pm_frames.proofs.ReadNodes.{relay_parent_refused}
use Rattle.pm_frames.proofs.relay.read_from_parent.Goals as goal

pub returns-in_err-frame : goal.returns-in_err-frame
returns-in_err-frame c = rw c.from_residual.ensures (relay_parent_refused _ _ c.requires.open c.in_err-frame.ensures)

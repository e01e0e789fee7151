-- Of `is_framing`: what it ensures.
use Rattle.pm_frames.proofs.OneRootFrame.{root_framing_sound}
use Rattle.pm_frames.proofs.root.RootFrameStreamFrame.is_framing.Goals as goal

pub returns : goal.returns
returns c = root_framing_sound

-- Of `is_framing`: what it ensures.
use Rattle.pm_frames.proofs.OneRelayFrame.{relay_framing_sound}
use Rattle.pm_frames.proofs.relay.RelayFrameStreamFrame.is_framing.Goals as goal

pub returns : goal.returns
returns c = relay_framing_sound

-- Of `is_framing` of the frames of a stream of bids: what it ensures.
use Rattle.pm_wire.proofs.OneFrame.{bid_framing_sound}
use Rattle.pm_wire.proofs.bid_frames.FrameStreamFrame.is_framing.Goals as goal

pub returns : goal.returns
returns c = bid_framing_sound

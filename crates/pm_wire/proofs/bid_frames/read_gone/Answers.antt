-- Of `read_gone`: what it ensures.
use Rattle.std.proofs.Common.{arith}
use Rattle.pm_wire.proofs.ReadFrames.{gone_refused, not_sender}
use Rattle.pm_wire.proofs.bid_frames.read_gone.Goals as goal

pub returns-then-not-is_sender : goal.returns-then-not-is_sender
returns-then-not-is_sender c =
    gone_refused _ _ _ _ _ _ c.requires c.read_u16-child.ensures c.read_u32-number.ensures (omega arith) (omega arith)
    (not_sender c.is_sender.result _ _ c.if-not-is_sender.true c.is_sender.ensures.1)

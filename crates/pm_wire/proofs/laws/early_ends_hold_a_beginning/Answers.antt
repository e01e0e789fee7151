-- Of `early_ends_hold_a_beginning`: what it ensures.
use Rattle.std.proofs.Common.{None}
use Rattle.pm_wire.specs.Frames.{bid_framing}
use Rattle.pm_wire.specs.Answers.{AreReplies}
use Rattle.pm_wire.proofs.OneFrame.{bid_framing_sound}
use Rattle.pm_wire.proofs.Known.{replies_one}
use Rattle.pm_wire.proofs.EarlyEnds as early
use Rattle.pm_wire.proofs.laws.early_ends_hold_a_beginning.Goals as goal

pub returns : goal.returns
returns c = record {
  read_fault = early.read_fault bid_framing bid_framing_sound None AreReplies replies_one;
  too_long = early.too_long bid_framing bid_framing_sound None AreReplies replies_one;
  no_memory = early.no_memory bid_framing bid_framing_sound None AreReplies replies_one;
  write_fault = early.write_fault bid_framing bid_framing_sound None AreReplies replies_one;
}

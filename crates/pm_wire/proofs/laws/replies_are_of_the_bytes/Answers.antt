-- Of `replies_are_of_the_bytes`: what it ensures.
use Rattle.std.proofs.Common.{None}
use Rattle.pm_wire.specs.Frames.{bid_framing}
use Rattle.pm_wire.specs.Answers.{AreReplies}
use Rattle.pm_wire.proofs.OneFrame.{bid_framing_sound}
use Rattle.pm_wire.proofs.Known.{replies_one}
use Rattle.pm_wire.proofs.EarlyEnds as early
use Rattle.pm_wire.proofs.laws.replies_are_of_the_bytes.Goals as goal

pub returns : goal.returns
returns c = record {
  done = early.one_done bid_framing bid_framing_sound None AreReplies replies_one;
  refused = early.one_refused bid_framing bid_framing_sound None AreReplies replies_one;
  not_both = early.not_both bid_framing bid_framing_sound None AreReplies replies_one;
  answered = early.one_answered bid_framing bid_framing_sound None AreReplies replies_one;
  within_or_past = early.within_or_past bid_framing bid_framing_sound None AreReplies replies_one;
  past_the_limit = early.past_the_limit bid_framing bid_framing_sound None AreReplies replies_one;
}

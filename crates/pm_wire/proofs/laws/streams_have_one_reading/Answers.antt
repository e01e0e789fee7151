-- Of `streams_have_one_reading`: what it ensures.
use Rattle.std.proofs.Common.{None}
use Rattle.pm_wire.specs.Frames.{bid_framing}
use Rattle.pm_wire.proofs.OneFrame.{bid_framing_sound}
use Rattle.pm_wire.proofs.OneReading as laws
use Rattle.pm_wire.proofs.laws.streams_have_one_reading.Goals as goal

pub returns : goal.returns
returns c = record {
  one_list = λ bytes frames others rest left b stop b' stop'.
      laws.same_reading bid_framing bid_framing_sound None bytes frames others rest left b stop b' stop';
  one_offset = laws.one_offset bid_framing bid_framing_sound None;
  one_end = laws.one_end bid_framing bid_framing_sound None;
  frames_are_not_bad = laws.frames_not_bad bid_framing bid_framing_sound None;
  frames_do_not_end_within = laws.frames_not_within bid_framing bid_framing_sound None;
  bad_does_not_end_within = laws.bad_not_within bid_framing bid_framing_sound None;
  bad_stays = laws.bad_stays bid_framing None;
}

-- Of `read_accepted`: what it ensures.
use Rattle.pm_frames.proofs.ReadNodes.{fails}
use Rattle.pm_frames.proofs.parent.read_accepted.Goals as goal

pub returns-then-not-is_accepted : goal.returns-then-not-is_accepted
returns-then-not-is_accepted c = record {
  frame = c.read_parent-frame.result;
  formed = c.read_parent-frame.ensures.formed;
  refused = fails c.is_accepted.result c.if-not-is_accepted.true c.is_accepted.ensures.1;
  spelled = c.read_parent-frame.ensures.spelled;
}

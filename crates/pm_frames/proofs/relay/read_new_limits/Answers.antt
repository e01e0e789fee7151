-- Of `read_new_limits`: what it ensures.
use Rattle.pm_frames.proofs.ReadNodes.{relay_limits_refused, fails}
use Rattle.pm_frames.proofs.relay.read_new_limits.Goals as goal

pub returns-then-not-are_given : goal.returns-then-not-are_given
returns-then-not-are_given c =
    relay_limits_refused _ _ _ _ c.requires.open c.read_given-number.ensures.formed c.read_given-number.ensures.spelled
    (fails c.are_given.result c.if-not-are_given.true c.are_given.ensures.1)

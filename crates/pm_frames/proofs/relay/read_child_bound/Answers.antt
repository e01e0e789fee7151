-- Of `read_child_bound`: what it ensures.
use Rattle.pm_frames.proofs.ReadNodes.{relay_bound_refused, fails}
use Rattle.pm_frames.proofs.relay.read_child_bound.Goals as goal

pub returns-then-not-is_childs_bound : goal.returns-then-not-is_childs_bound
returns-then-not-is_childs_bound c =
    relay_bound_refused _ _ _ _ c.requires.open c.read_bound-child.ensures.formed c.read_bound-child.ensures.spelled
    (fails c.is_childs_bound.result c.if-not-is_childs_bound.true c.is_childs_bound.ensures.1)

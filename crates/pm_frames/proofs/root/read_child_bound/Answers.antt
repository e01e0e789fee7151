-- Of `read_child_bound`: what it ensures.
use Rattle.pm_frames.proofs.ReadNodes.{root_bound_refused, fails}
use Rattle.pm_frames.proofs.root.read_child_bound.Goals as goal

pub returns-then-not-is_bound : goal.returns-then-not-is_bound
returns-then-not-is_bound c =
    root_bound_refused _ _ _ _ c.requires.open c.read_bound-child.ensures.formed c.read_bound-child.ensures.spelled
    (fails c.is_bound.result c.if-not-is_bound.true c.is_bound.ensures.1)

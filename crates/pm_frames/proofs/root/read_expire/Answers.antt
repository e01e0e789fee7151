-- Of `read_expire`: what it ensures.
use Rattle.pm_frames.proofs.ReadNodes.{root_expire_refused, fails}
use Rattle.pm_frames.proofs.root.read_expire.Goals as goal

pub returns-then-not-is_child : goal.returns-then-not-is_child
returns-then-not-is_child c =
    root_expire_refused _ _ _ c.requires.open c.read_expiring-child.ensures.formed c.read_expiring-child.ensures.spelled
    (fails c.is_child.result c.if-not-is_child.true c.is_child.ensures.1)

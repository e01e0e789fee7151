-- Of `read_expire`: what it ensures.
use Rattle.pm_frames.proofs.ReadNodes.{relay_expire_refused, fails}
use Rattle.pm_frames.proofs.relay.read_expire.Goals as goal

pub returns-then-not-is_expiring : goal.returns-then-not-is_expiring
returns-then-not-is_expiring c =
    relay_expire_refused _ _ _ c.requires.open c.read_expiring-child.ensures.formed c.read_expiring-child.ensures.spelled
    (fails c.is_expiring.result c.if-not-is_expiring.true c.is_expiring.ensures.1)

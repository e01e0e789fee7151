-- Of `read_device_kind`: what it ensures.
use Rattle.pm_frames.proofs.ReadNodes.{fails}
use Rattle.pm_frames.proofs.ReadOffers.{kind_refused}
use Rattle.pm_frames.proofs.device.read_device_kind.Goals as goal

pub returns-then-not-is_valid : goal.returns-then-not-is_valid
returns-then-not-is_valid c =
    kind_refused _ _ _ c.requires.open c.read_named_kind-named.ensures.formed c.read_named_kind-named.ensures.spelled
    (fails c.is_valid.result c.if-not-is_valid.true c.is_valid.ensures.1)

-- Of `read_hello`: what it ensures.
use Rattle.std.proofs.Common.{refl}
use Rattle.pm_frames.proofs.ReadNodes.{hello_refused, nothing_read}
use Rattle.pm_frames.proofs.device.read_hello.Goals as goal

pub returns-in_default-clause-one : goal.returns-in_default-clause-one
returns-in_default-clause-one g c = hello_refused _ _ c.requires.start (nothing_read _ _ _ _ _ refl c.in_default.is c.in_ok-frame.ensures.one)

-- Of `Kind::fits`: what it ensures.
use Rattle.std.proofs.Common.{rules}
use Rattle.pm_device.proofs.kind.Kind.fits.Goals as goal

pub returns-in-Solar : goal.returns-in-Solar
returns-in-Solar c = search rules

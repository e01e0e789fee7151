-- Of `is_band`: what it ensures.
use Rattle.std.proofs.Common.{rules}
use Rattle.pm_device.proofs.limits.is_band.Goals as goal

pub returns-then-is_temperature-2 : goal.returns-then-is_temperature-2
returns-then-is_temperature-2 c = search rules

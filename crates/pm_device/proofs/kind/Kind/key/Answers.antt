-- Of `Kind::key`: what it ensures.
use Rattle.std.proofs.Common.{rules}
use Rattle.pm_device.proofs.kind.Kind.key.Goals as goal

pub returns-in-Cogeneration : goal.returns-in-Cogeneration
returns-in-Cogeneration c = search rules

-- Of `kind_named`: what it ensures.
use Rattle.std.proofs.Common.{rules}
use Rattle.pm_scene.proofs.kinds.kind_named.Goals as goal

pub returns-in-heat_pump : goal.returns-in-heat_pump
returns-in-heat_pump c = search rules

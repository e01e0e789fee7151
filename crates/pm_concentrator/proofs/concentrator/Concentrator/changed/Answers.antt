-- Of `Concentrator::changed`: what it ensures.
use Rattle.std.proofs.Common.{rules}
use Rattle.pm_concentrator.proofs.concentrator.Concentrator.changed.Goals as goal

pub returns : goal.returns
returns c = search rules

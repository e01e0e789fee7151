-- Of `planned_concentrator`: what it ensures of a node with limits.
use Rattle.std.proofs.Common.{rules}
use Rattle.pm_phase.proofs.matcher.planned_concentrator.Goals as goal

pub returns : goal.returns
returns c = search rules

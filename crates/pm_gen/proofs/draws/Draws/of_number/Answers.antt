-- Of `Draws::of_number`: what it ensures.
use Rattle.std.proofs.Common.{rules}
use Rattle.pm_gen.proofs.draws.Draws.of_number.Goals as goal

pub returns : goal.returns
returns c = search rules

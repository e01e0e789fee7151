-- Of `parent_name`: what it ensures.
use Rattle.std.proofs.Common.{rules}
use Rattle.pm_gen.proofs.names.parent_name.Goals as goal

pub returns-else-number-eq1 : goal.returns-else-number-eq1
returns-else-number-eq1 c = search rules

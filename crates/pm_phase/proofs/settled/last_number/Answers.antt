-- Of `last_number`: what it ensures.
use Rattle.std.proofs.Common.{arith}
use Rattle.pm_cells.proofs.Numbers.{newest_read}
use Rattle.pm_phase.proofs.settled.last_number.Goals as goal

pub returns-else-is_empty : goal.returns-else-is_empty
returns-else-is_empty c = newest_read c.args.numbers.now (λ e. grind (arith, c.if-is_empty.false, c.is_empty.ensures))

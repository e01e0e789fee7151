-- Of `same_entry`: what it ensures.
use Rattle.std.proofs.Common.{rules}
use Rattle.pm_tree.proofs.same.same_entry.Goals as goal

pub returns-then-eq-2 : goal.returns-then-eq-2
returns-then-eq-2 c = search rules

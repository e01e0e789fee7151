-- Of `turn_event`: its clause `members`.
use Rattle.std.proofs.Common.{rules}
use Rattle.pm_gen.proofs.rounds.turn_event.Goals as goal

pub returns-then-is_joined-clause-members : goal.returns-then-is_joined-clause-members
returns-then-is_joined-clause-members c = search rules

pub returns-else-is_joined-clause-members : goal.returns-else-is_joined-clause-members
returns-else-is_joined-clause-members c = search rules

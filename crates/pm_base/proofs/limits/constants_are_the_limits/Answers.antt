-- Of `constants_are_the_limits`: its clauses `depth`, `window` and `sum`.
use Rattle.std.proofs.Common.{refl}
use Rattle.pm_base.proofs.limits.constants_are_the_limits.Goals as goal

pub returns-clause-depth : goal.returns-clause-depth
returns-clause-depth c = refl

pub returns-clause-window : goal.returns-clause-window
returns-clause-window c = refl

pub returns-clause-sum : goal.returns-clause-sum
returns-clause-sum c = refl

-- Of `limits_may_change`: its clauses `given` and `fixed`.
use Rattle.std.proofs.Common.{refl}
use Rattle.pm_net.proofs.Limits.{given_alike}
use Rattle.pm_net.proofs.limits_may_change.Goals as goal

pub returns-clause-given : goal.returns-clause-given
returns-clause-given c lists limits giver gives = given_alike lists limits giver gives

pub returns-clause-fixed : goal.returns-clause-fixed
returns-clause-fixed c lists limits y a b same = refl

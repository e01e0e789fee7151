-- Of `stranger_named`: its clause `device`.
use Rattle.std.proofs.Common.{rules}
use Rattle.pm_plan.specs.Building.{stranger_named}
use Rattle.pm_plan.proofs.building.events.stranger_named.Goals as goal

pub returns-then-is_member-clause-device : goal.returns-then-is_member-clause-device
unfolding stranger_named
returns-then-is_member-clause-device c = search rules

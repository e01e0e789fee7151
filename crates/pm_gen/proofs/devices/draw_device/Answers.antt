-- Of `draw_device`: its clauses `device` and `seed`.
use Rattle.std.proofs.Common.{rules}
use Rattle.pm_gen.specs.Nodes.{drawn_device}
use Rattle.pm_gen.proofs.devices.draw_device.Goals as goal

pub returns-clause-device : goal.returns-clause-device
unfolding drawn_device
returns-clause-device c = search rules

pub returns-clause-seed : goal.returns-clause-seed
unfolding drawn_device
returns-clause-seed c = search rules

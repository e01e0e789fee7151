-- Of `push_devices`: what lasts from turn to turn.
use Rattle.std.proofs.Common.{map}
use Rattle.pm_plan.specs.Parts.{node_part}
use Rattle.pm_gen.proofs.Drawing.{Drawn}
use Rattle.pm_gen.proofs.devices.push_devices.Given as goal

abbrev pub invariant-loop : goal.invariant-loop
invariant-loop l = Drawn (map node_part l.fn.nodes.items) l.size l.fn.draws.seed (map node_part l.nodes.items) l.counter l.draws.seed

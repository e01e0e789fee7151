-- Of `push_concentrators`: what lasts from turn to turn.
use Rattle.std.proofs.Common.{◌≡◌, ◌++◌, map, replicate}
use Rattle.pm_plan.specs.Parts.{node_part, concentrator}
use Rattle.pm_gen.proofs.devices.push_concentrators.Given as goal

abbrev pub invariant-loop : goal.invariant-loop
invariant-loop l = map node_part l.nodes.items ≡ map node_part l.fn.nodes.items ++ replicate l.counter concentrator

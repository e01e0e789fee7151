-- Of `tick_each`: what its loop over `node` keeps.
use Rattle.std.proofs.Common.{◌≡◌, ◌++◌, take, drop, map}
use Rattle.pm_plan.specs.Building.{map_device, device_after_tick}
use Rattle.pm_plan.proofs.building.draft.tick_each.Given as goal

abbrev pub invariant-loop-node : goal.invariant-loop-node
invariant-loop-node l = l.nodes ≡ map (map_device (device_after_tick l.phase l.minutes)) (take l.node-index l.fn.nodes) ++ drop l.node-index l.fn.nodes

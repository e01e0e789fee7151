-- Of `tick_each`: the turns of its loop over `node`.
use Rattle.std.proofs.Common.{arith, to_z, of_z}
use Rattle.pm_plan.specs.Building.{map_device, device_after_tick}
use Rattle.pm_plan.proofs.Drafts.{map_more}
use Rattle.pm_plan.proofs.building.draft.tick_each.Goals as goal
use mir.Syntax.{w64}

pub loop-node-preserved : goal.loop-node-preserved
loop-node-preserved c =
    map_more (map_device (device_after_tick c.args.phase (to_z w64
    (of_z w64 c.args.minutes)))) c.args.nodes.now c.loop-node.nodes c.loop-node.node-index c.node-item.result c.tick.new.self
    (omega arith) (omega arith) c.loop-node.invariant c.in_ok-tick.ensures

-- Of `read_all_limited`: the turns of its loop over `node`.
use Rattle.std.proofs.Common.{arith}
use Rattle.pm_carried.specs.Carried.{carried_limited}
use Rattle.pm_plan.specs.Plans.{is_limited}
use Rattle.pm_phase.specs.PartsEnd.{held_of_parts}
use Rattle.pm_phase.proofs.ReadLines.{one_more}
use Rattle.pm_phase.proofs.reading.read_all_limited.Goals as goal

pub loop-node-preserved : goal.loop-node-preserved
loop-node-preserved c = (
  omega arith,
  one_more (carried_limited c.args.plan.now (held_of_parts c.args.parts.now)) (is_limited c.args.plan.now) c.loop-node.node c.loop-node.lines.items
      c.add_limited.new.lines.items c.loop-node.invariant.0 c.loop-node.invariant.1 (c.in_ok-add_limited.ensures c.if-not-branch.false),
)

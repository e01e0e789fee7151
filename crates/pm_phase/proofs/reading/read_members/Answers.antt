-- Of `read_members`: the turns of its loop over `node`.
use Rattle.std.proofs.Common.{arith}
use Rattle.pm_carried.specs.Carried.{carried_member}
use Rattle.pm_phase.specs.PartsEnd.{held_of_parts, is_member_in}
use Rattle.pm_phase.proofs.ReadLines.{one_more}
use Rattle.pm_phase.proofs.reading.read_members.Goals as goal

pub loop-node-preserved : goal.loop-node-preserved
loop-node-preserved c = (
  omega arith,
  one_more (carried_member c.args.plan.now (held_of_parts c.args.parts.now)) (is_member_in c.args.parts.now) c.loop-node.node c.loop-node.lines.items
      c.add_member.new.lines.items c.loop-node.invariant.0 c.loop-node.invariant.1 (c.in_ok-add_member.ensures c.if-not-branch.false),
)

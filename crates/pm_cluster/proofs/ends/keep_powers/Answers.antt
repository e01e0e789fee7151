-- Of `keep_powers`: its clause `kept`.
use Rattle.std.proofs.Common.{ap, length, arith}
use Rattle.pm_cluster.proofs.Parents.{nodes_are, leaf_inside}
use Rattle.pm_cluster.proofs.ends.keep_powers.Goals as goal

pub returns-clause-kept : goal.returns-clause-kept
returns-clause-kept c d leaf = c.loop-number.invariant.found d leaf
    (omega (
      arith,
      (leaf_inside c.args.plan.now c.tree.ensures.sound d leaf).1,
      nodes_are c.args.plan.now,
      c.loop-number-test.false,
      c.len-number-end.ensures.len,
      ap length c.tree.ensures.tree,
    ))

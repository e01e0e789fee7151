-- Of `count_children`: that there are none past the last node, and its clause `few`.
use Rattle.std.proofs.Common.{sym, ap, arith, List, length}
use Rattle.pm_tree.specs.Entries.{Entry, children_of}
use Rattle.pm_phase.proofs.ChildCounts.{has_few_children, ids_are_counted, child_count-past}
use Rattle.pm_phase.proofs.matcher.count_children.Goals as goal

pub returns-then-node-len-clause-children : goal.returns-then-node-len-clause-children
returns-then-node-len-clause-children c =
    sym (child_count-past c.args.plan.now c.args.node c.tree-tree.ensures.sound
    (omega (arith, c.if-node-len.true, c.len.ensures.len, ap length c.tree-tree.ensures.tree)))

pub returns-clause-few : goal.returns-clause-few
returns-clause-few c =
    omega (
      arith,
      has_few_children c.args.plan.now c.args.node c.tree-tree.ensures.sound,
      ids_are_counted c.tree-tree.result.now c.args.node c.children.result.now c.children.ensures,
      ap (λ (l : List Entry). length (children_of l c.args.node)) c.tree-tree.ensures.tree,
    )

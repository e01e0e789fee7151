-- Of `Tree::is_leaf`: what it ensures; that its numbers fit.
use Rattle.std.proofs.Common.{arith}
use Rattle.pm_tree.proofs.Whole.{row_inside, row_tells_leaf}
use Rattle.pm_tree.proofs.tree.Tree.is_leaf.Goals as goal

pub index-requires : goal.index-requires
index-requires c =
    let kept = rw c.self.view_is at c.self.invariant in
    omega (arith, row_inside _ _ _ kept.index _ c.requires, c.self.inside.nodes.ok)

pub returns : goal.returns
returns c =
    let kept = rw c.self.view_is at c.self.invariant in
    row_tells_leaf _ _ _ kept.index _ c.requires _ c.index.ensures

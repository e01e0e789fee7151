-- Of `Tree::depth`: what it ensures; that its numbers fit.
use Rattle.std.proofs.Common.{arith}
use Rattle.pm_tree.proofs.Named.{length-parents_of}
use Rattle.pm_tree.proofs.Whole.{row_inside, row_tells_depth}
use Rattle.pm_tree.proofs.tree.Tree.depth.Goals as goal

pub index-requires : goal.index-requires
index-requires c =
    let kept = rw c.self.view_is at c.self.invariant in
    omega (arith, row_inside _ _ _ kept.index _ c.requires, c.self.inside.nodes.ok)

pub returns : goal.returns
returns c =
    let kept = rw c.self.view_is at c.self.invariant in
    let is = row_tells_depth _ _ _ kept.index _ c.requires _ c.index.ensures in
    record {
      depth = is;
      shallow = omega (arith, is, kept.lawful.shallow c.args.node.0 (omega (arith, length-parents_of c.args.self.now)));
    }

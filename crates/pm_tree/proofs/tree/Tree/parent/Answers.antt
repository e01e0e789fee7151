-- Of `Tree::parent`: what it ensures; that its numbers fit.
use Rattle.std.proofs.Common.{◌≤◌, length, arith}
use Rattle.pm_tree.specs.Entries.{parents_of}
use Rattle.pm_tree.proofs.Named.{length-parents_of}
use Rattle.pm_tree.proofs.Whole.{row_inside, row_tells_parent}
use Rattle.pm_tree.proofs.tree.Tree.parent.Goals as goal

pub index-requires : goal.index-requires
index-requires c =
    let kept = rw c.self.view_is at c.self.invariant in
    omega (arith, row_inside _ _ _ kept.index _ c.requires.inside, c.self.inside.nodes.ok)

pub returns : goal.returns
returns c =
    let kept = rw c.self.view_is at c.self.invariant in
    let low : c.args.node.0 ≤ length (parents_of c.args.self.now) = omega (arith, length-parents_of c.args.self.now) in
    let is = row_tells_parent _ _ _ kept.index _ c.requires.inside _ c.index.ensures in
    record {
      parent = is;
      earlier = omega (arith, is, kept.lawful.earlier c.args.node.0 c.requires.entry low);
      under_no_leaf = rw is (kept.lawful.under_no_leaf c.args.node.0 low);
    }

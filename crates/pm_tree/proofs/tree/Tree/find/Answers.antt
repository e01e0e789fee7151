-- Of `Tree::find`: what it ensures.
use Rattle.std.proofs.Common.{◌∙◌, ap}
use Rattle.std.specs.List.{position}
use Rattle.std.specs.Str.{bytes_eq}
use Rattle.pm_tree.specs.Entries.{node_named}
use Rattle.pm_tree.proofs.tree.Tree.find.Goals as goal

pub returns : goal.returns
unfolding node_named
returns c =
    let kept = rw c.self.view_is at c.self.invariant in
    c.find_node.ensures ∙ ap (position (bytes_eq c.args.name.now)) kept.index.names_are

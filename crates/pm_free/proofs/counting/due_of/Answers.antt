-- Of `due_of`: what it ensures of a node that is no device.
use Rattle.std.proofs.Common.{◌∙◌, sym, ap, List}
use Rattle.pm_tree.specs.Entries.{Entry, is_leaf_at}
use Rattle.pm_free.proofs.Counted.{none_due}
use Rattle.pm_free.proofs.counting.due_of.Goals as goal

pub returns-then-not-is_leaf : goal.returns-then-not-is_leaf
returns-then-not-is_leaf c =
    none_due c.args.plan.now c.tree.ensures.sound c.args.phase c.args.node
    (ap (λ (es : List Entry). is_leaf_at es c.args.node) (sym c.tree.ensures.tree) ∙ sym c.is_leaf.ensures ∙ c.if-not-is_leaf.true)

-- Of `phase_changes`: what it ensures.
use Rattle.std.proofs.Common.{◌≡◌, ◌∙◌, ◌-◌, sym, ap, false, arith}
use Rattle.pm_tree.specs.Entries.{is_leaf_at}
use Rattle.pm_plan.specs.Plans.{is_leaf}
use Rattle.pm_walk.proofs.Nodes.{end-other}
use Rattle.pm_check.proofs.lists.phase_changes.Goals as goal

pub returns-else-is_leaf : goal.returns-else-is_leaf
returns-else-is_leaf c =
    let plan = c.args.plan.now in
    let other : is_leaf plan c.args.node.0 ≡ false =
    ap (λ e. is_leaf_at e c.args.node.0) (sym c.tree.ensures.tree) ∙ sym c.is_leaf.ensures ∙ c.if-is_leaf.false in
    omega (
      arith,
      end-other plan c.args.phase c.args.node.0 c.tree.ensures.sound other,
      end-other plan (c.args.phase - 1) c.args.node.0 c.tree.ensures.sound other,
    )

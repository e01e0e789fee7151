-- Of `device_named`: its clause `inside`; what the call of `is_leaf` requires.
use Rattle.std.proofs.Common.{◌∙◌, sym}
use Rattle.pm_plan.proofs.Drafts.{device_is_no_root}
use Rattle.pm_tree.proofs.Named.{node_named-inside}
use Rattle.pm_plan.proofs.building.events.device_named.Goals as goal

pub is_leaf-requires : goal.is_leaf-requires
is_leaf-requires c = node_named-inside c.args.tree.now c.args.name.now c.in_ok-node.node.0 (sym c.in_ok-node.ensures)

pub returns-then-is_leaf-clause-inside : goal.returns-then-is_leaf-clause-inside
returns-then-is_leaf-clause-inside c = (
  device_is_no_root c.args.tree.now c.in_ok-node.node.0 (sym c.is_leaf.ensures ∙ c.if-is_leaf.true),
  node_named-inside c.args.tree.now c.args.name.now c.in_ok-node.node.0 (sym c.in_ok-node.ensures),
)

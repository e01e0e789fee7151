-- Of `make_plan`: what the call of `plan_of_parts` requires.
use Rattle.std.proofs.Common.{◌∙◌, sym, ap, subst, map}
use Rattle.pm_plan.specs.Parts.{AreNodesOf}
use Rattle.pm_scene.specs.Nodes.{named_part}
use Rattle.pm_scene.specs.Trees.{tree_of}
use Rattle.pm_scene.proofs.Nodes.{are_nodes}
use Rattle.pm_scene.proofs.scene.make_plan.Goals as goal

pub plan_of_parts-requires : goal.plan_of_parts-requires
plan_of_parts-requires c =
    let nodes = map named_part c.args.shape.nodes.items in
    let made = ap tree_of (sym c.in_ok-parts.ensures.entries) ∙ c.in_ok-tree.ensures in
    subst (AreNodesOf c.in_ok-tree.tree) (sym c.in_ok-parts.ensures.parts) (are_nodes nodes c.in_ok-tree.tree made)

-- Of `add_nodes`: its clause `made`; the turns of its loop over `spec`.
use Rattle.std.proofs.Common.{◌∙◌, ◌+◌, arith}
use Rattle.pm_plan.specs.Building.{add_node}
use Rattle.pm_plan.specs.Parts.{node_part}
use Rattle.pm_plan.proofs.Folds.{made_more, makes_refused, made_all}
use Rattle.pm_plan.proofs.building.nodes.add_nodes.Goals as goal

pub returns-in_err-add_node-clause-made : goal.returns-in_err-add_node-clause-made
returns-in_err-add_node-clause-made c =
    makes_refused add_node node_part c.args.draft.now c.args.specs.now c.loop-spec.spec-index
    (c.loop-spec.number + 1) c.spec-item.result c.loop-spec.draft _ _ _
    (omega arith) (omega arith) c.spec-item.is c.loop-spec.invariant.made c.in_err-add_node.ensures.made c.from_residual.ensures.1

pub loop-spec-preserved : goal.loop-spec-preserved
loop-spec-preserved c = record {
  number = omega arith;
  nodes = omega (arith, c.in_ok-add_node.ensures.nodes);
  entries = c.in_ok-add_node.ensures.entries ∙ c.loop-spec.invariant.entries;
  arrays = omega (arith, c.in_ok-add_node.ensures.arrays);
  made =
      made_more add_node node_part c.args.draft.now c.args.specs.now c.loop-spec.spec-index (c.loop-spec.number + 1) c.spec-item.result c.loop-spec.draft _
      (omega arith) (omega arith) c.spec-item.is c.loop-spec.invariant.made c.in_ok-add_node.ensures.made;
}

pub returns-clause-made : goal.returns-clause-made
returns-clause-made c = made_all add_node node_part c.args.draft.now c.args.specs.now c.loop-spec.spec-index c.loop-spec.draft
    (omega arith) c.loop-spec.invariant.made

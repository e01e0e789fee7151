-- Of `read_nodes`: what it ensures; the turns of its loop over `value`.
use Rattle.std.proofs.Common.{arith}
use Rattle.serde_json.specs.View.{view}
use Rattle.pm_base.proofs.Outcomes.{Gives-err}
use Rattle.pm_plan.specs.declared.refusal.Place.TheVariants.{Node}
use Rattle.pm_plan.specs.Refusals.{refusal_in}
use Rattle.pm_scene.specs.Nodes.{node_of, nodes_of, named_part}
use Rattle.pm_scene.proofs.Readers.{HaveRead-next, HaveRead-refuses, HaveRead-all}
use Rattle.pm_scene.proofs.shape.nodes.read_nodes.Goals as goal

pub returns-in_err-read_node : goal.returns-in_err-read_node
unfolding nodes_of
returns-in_err-read_node c =
    Gives-err refusal_in _ _ _ _ c.from_residual.ensures.1
    (HaveRead-refuses (λ n. node_of c.args.knows_limited (Node n)) view named_part _ _ _ _ _ _ _ c.loop-value.invariant.read c.loop-value-test.true
    c.value-item.is (omega (arith, c.saturating_add-number.ensures)) c.in_err-read_node.ensures)

pub loop-value-preserved : goal.loop-value-preserved
loop-value-preserved c = record {
  number = omega (arith, c.saturating_add-number.ensures);
  read =
      HaveRead-next (λ n. node_of c.args.knows_limited (Node n)) view named_part _ _ _ _ _ _ _ _ c.loop-value.invariant.read c.loop-value-test.true
      c.value-item.is (omega (arith, c.saturating_add-number.ensures)) c.in_ok-read_node.ensures c.in_ok-push.ensures.items;
}

pub returns : goal.returns
unfolding nodes_of
returns c = HaveRead-all (λ n. node_of c.args.knows_limited (Node n)) view named_part _ _ _ c.loop-value.invariant.read c.loop-value-test.false

-- Of `read_nodes`: what its loop over `value` keeps.
use Rattle.std.proofs.Common.{◌≡◌}
use Rattle.serde_json.specs.View.{view}
use Rattle.pm_plan.specs.declared.refusal.Place.TheVariants.{Node}
use Rattle.pm_scene.specs.Nodes.{node_of, named_part, place_number}
use Rattle.pm_scene.proofs.Readers.{HaveRead}
use Rattle.pm_scene.proofs.shape.nodes.read_nodes.Given as goal

abbrev pub invariant-loop-value : goal.invariant-loop-value
invariant-loop-value l = record {
  number : l.number ≡ place_number l.value-index;
  read : HaveRead (λ n. node_of l.knows_limited (Node n)) view named_part l.values l.value-index l.nodes.items;
}

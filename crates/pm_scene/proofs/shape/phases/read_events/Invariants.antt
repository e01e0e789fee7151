-- Of `read_events`: what its loop over `value` keeps.
use Rattle.std.proofs.Common.{◌≡◌}
use Rattle.serde_json.specs.View.{view}
use Rattle.pm_plan.specs.Parts.{event_part}
use Rattle.pm_plan.specs.declared.refusal.Place.TheVariants.{Event}
use Rattle.pm_scene.specs.Nodes.{place_number}
use Rattle.pm_scene.specs.Phases.{event_shape}
use Rattle.pm_scene.proofs.Readers.{HaveRead}
use Rattle.pm_scene.proofs.shape.phases.read_events.Given as goal

abbrev pub invariant-loop-value : goal.invariant-loop-value
invariant-loop-value l = record {
  number : l.number ≡ place_number l.value-index;
  read : HaveRead (λ n. event_shape (Event l.phase n)) view event_part l.values l.value-index l.events.items;
}

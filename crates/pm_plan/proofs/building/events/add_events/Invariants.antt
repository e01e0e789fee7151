-- Of `add_events`: what its loop over `spec` keeps.
use Rattle.std.proofs.Common.{◌≡◌, ◌≤◌, ◌+◌, Ok, length}
use Rattle.pm_plan.specs.Building.{add_event}
use Rattle.pm_plan.specs.Parts.{event_part}
use Rattle.pm_plan.proofs.Folds.{made_of}
use Rattle.pm_plan.proofs.building.events.add_events.Given as goal

abbrev pub invariant-loop-spec : goal.invariant-loop-spec
invariant-loop-spec l = record {
  number : l.number ≡ l.spec-index;
  nodes : length l.draft.nodes ≡ length l.fn.draft.nodes;
  entries : l.draft.entries ≡ l.fn.draft.entries;
  arrays : length l.draft.arrays ≤ length l.fn.draft.arrays + l.spec-index;
  made : made_of (add_event l.phase) event_part l.fn.draft l.specs l.spec-index ≡ Ok l.draft;
}

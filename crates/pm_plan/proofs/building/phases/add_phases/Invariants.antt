-- Of `add_phases`: what its loop over `spec` keeps.
use Rattle.std.proofs.Common.{◌≡◌, ◌≤◌, ◌+◌, ◌*◌, Ok, length}
use Rattle.pm_base.specs.Limits.{most_events}
use Rattle.pm_plan.specs.Building.{add_phase}
use Rattle.pm_plan.specs.Parts.{phase_part}
use Rattle.pm_plan.proofs.Folds.{made_of}
use Rattle.pm_plan.proofs.building.phases.add_phases.Given as goal

abbrev pub invariant-loop-spec : goal.invariant-loop-spec
invariant-loop-spec l = record {
  number : l.number ≡ l.spec-index;
  nodes : length l.draft.nodes ≡ length l.fn.draft.nodes;
  entries : l.draft.entries ≡ l.fn.draft.entries;
  arrays : length l.draft.arrays ≤ length l.fn.draft.arrays + most_events * l.spec-index;
  made : made_of add_phase phase_part l.fn.draft l.specs l.spec-index ≡ Ok l.draft;
}

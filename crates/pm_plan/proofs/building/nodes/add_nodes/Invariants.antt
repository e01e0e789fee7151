-- Of `add_nodes`: what its loop over `spec` keeps.
use Rattle.std.proofs.Common.{◌≡◌, ◌≤◌, Ok, length}
use Rattle.pm_plan.specs.Building.{add_node}
use Rattle.pm_plan.specs.Parts.{node_part}
use Rattle.pm_plan.proofs.Folds.{made_of}
use Rattle.pm_plan.proofs.building.nodes.add_nodes.Given as goal

abbrev pub invariant-loop-spec : goal.invariant-loop-spec
invariant-loop-spec l = record {
  number : l.number ≡ l.spec-index;
  nodes : length l.draft.nodes ≡ l.spec-index;
  entries : l.draft.entries ≡ l.fn.draft.entries;
  arrays : length l.draft.arrays ≤ l.spec-index;
  made : made_of add_node node_part l.fn.draft l.specs l.spec-index ≡ Ok l.draft;
}

-- Of `make_parts`: what its loop over `number` keeps.
use Rattle.std.proofs.Common.{◌≡◌, ℕ, length, Some}
use Rattle.std.specs.Prelude.{slice_get}
use Rattle.pm_phase.specs.Nodes.{IsNewDuty}
use Rattle.pm_phase.specs.declared.node.NodePart.{NodePart}
use Rattle.pm_free.proofs.phase.make_parts.Given as goal

abbrev pub invariant-loop-number : goal.invariant-loop-number
invariant-loop-number l = (length l.parts.items ≡ l.number)
    × ((x : ℕ) (part : NodePart) → slice_get l.parts.items x ≡ Some part → (part.number ≡ x) × IsNewDuty l.plan x part.duty)

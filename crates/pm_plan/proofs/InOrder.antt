-- The parts of a file, taken one after the other.
use Rattle.std.proofs.Common.{◌≡◌, ◌∙◌, sym, ap, ◌≤◌, List, length, map}
use Rattle.std.proofs.lemmas.Bool.{le-leb}
use Rattle.std.proofs.lemmas.List.{length-map}
use Rattle.pm_basis.specs.Prices.{BasisValue}
use Rattle.pm_tree.specs.Entries.{Entry, leaves_of}
use Rattle.pm_plan.specs.declared.refusal.Cause.TheVariants as cause
use Rattle.pm_plan.specs.declared.parts.NodeSpec.{NodeSpec}
use Rattle.pm_plan.specs.declared.refusal.Place.TheVariants.{Document}
use Rattle.pm_plan.specs.Parts.{NodePart, PhasePart, AreNodesOf, is_device, node_part}
use Rattle.pm_plan.specs.Building.{checked_plan, empty_plan, nodes_and_phases}
use Rattle.pm_plan.specs.Refusals.{check}
use Rattle.pm_base.specs.Outcomes.{◌>>◌}
use Rattle.pm_base.specs.Limits.{most_phases}

-- there is a part for each entry
pub one_part_each : (entries : List Entry) (specs : List NodeSpec) → AreNodesOf entries (map node_part specs) → length specs ≡ length entries
unfolding leaves_of
one_part_each entries specs are =
    sym (length-map (map node_part specs) is_device ∙ length-map specs node_part)
    ∙ ap (λ l. length l) are
    ∙ length-map entries (λ (entry : Entry). entry.leaf)

-- where there are few enough phases, the nodes come first and then the phases
pub nodes_then_phases : (basis : BasisValue) (entries : List Entry) (nodes : List NodePart) (phases : List PhasePart) → length phases ≤ most_phases →
    nodes_and_phases (empty_plan basis entries) nodes phases ≡ checked_plan basis entries nodes phases
unfolding checked_plan
nodes_then_phases basis entries nodes phases few =
    ap (λ b. check cause.RunTooLarge Document b >> nodes_and_phases (empty_plan basis entries) nodes phases)
    (sym (le-leb (length phases) most_phases few))

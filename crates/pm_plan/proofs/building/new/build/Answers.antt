-- Of `build`: its clause `draft`; what the call of `add_parts` requires.
use Rattle.std.proofs.Common.{◌≡◌, ◌∙◌, ◌≤◌, sym, ap, arith, subst, length, map, List}
use Rattle.std.proofs.lemmas.List.{length-map}
use Rattle.pm_base.specs.Limits.{most_phases}
use Rattle.pm_basis.specs.Prices.{BasisValue}
use Rattle.pm_tree.specs.Entries.{Entry, parents_of, leaves_of}
use Rattle.pm_tree.specs.Shape.{IsTree}
use Rattle.pm_plan.specs.declared.parts.PhaseSpec.{PhaseSpec}
use Rattle.pm_plan.specs.declared.refusal.PlanFault.TheVariants.{NoMemory}
use Rattle.pm_plan.specs.Plans.{PlanData}
use Rattle.pm_plan.specs.Parts.{NodePart, node_part, phase_part}
use Rattle.pm_plan.specs.Building.{checked_plan, empty_plan, nodes_and_phases}
use Rattle.pm_plan.specs.Refusals.{refusal_in}
use Rattle.pm_base.specs.Outcomes.{Refuses}
use Rattle.pm_base.proofs.Outcomes.{Gives-err}
use Rattle.pm_plan.proofs.Folds.{no_value}
use Rattle.pm_plan.proofs.InOrder.{one_part_each, nodes_then_phases}
use Rattle.pm_plan.proofs.building.new.build.Goals as goal

pub returns-in_err-draft : goal.returns-in_err-draft
returns-in_err-draft c =
    let fails = c.from_residual.ensures.1 in
    record {
      draft = Gives-err refusal_in _ _ NoMemory _ fails tt;
      sound = no_value c.from_residual.result _ _ fails;
      accepted = no_value c.from_residual.result _ _ fails;
      lawful = no_value c.from_residual.result _ _ fails;
    }

pub add_parts-requires : goal.add_parts-requires
add_parts-requires c =
    let empty = c.in_ok-draft.ensures.draft in
    let each : length c.args.nodes.now ≡ length c.args.tree = one_part_each c.args.tree c.args.nodes.now c.requires.nodes in
    record {
      lawful = subst (λ (plan : PlanData). IsTree (parents_of plan.entries) (leaves_of plan.entries)) (sym empty) c.in_ok-draft.ensures.lawful;
      first = ap (λ (plan : PlanData). length plan.nodes) empty;
      one_each = each ∙ ap (λ (plan : PlanData). length plan.entries) (sym empty);
      few_nodes = omega (arith, each, c.in_ok-draft.ensures.few);
      few_phases = omega arith;
      arrays = ap (λ (plan : PlanData). length plan.arrays) empty;
    }

-- taking the parts of the plan before its first node gives the plan of them all
parts_of_all : (basis : BasisValue) (entries : List Entry) (empty : PlanData) (nodes : List NodePart) (phases : List PhaseSpec) →
    length phases ≤ most_phases → empty ≡ empty_plan basis entries →
    nodes_and_phases empty nodes (map phase_part phases) ≡ checked_plan basis entries nodes (map phase_part phases)
parts_of_all basis entries empty nodes phases few is = ap (λ (plan : PlanData). nodes_and_phases plan nodes (map phase_part phases)) is
    ∙ nodes_then_phases basis entries nodes (map phase_part phases) (omega (arith, length-map phases phase_part))

pub returns-in_err-add_parts-clause-draft : goal.returns-in_err-add_parts-clause-draft
returns-in_err-add_parts-clause-draft c =
    Gives-err refusal_in _ _ _ _ c.from_residual-in_err-add_parts.ensures.1
    (subst (Refuses (refusal_in c.in_err-add_parts.field-0.0))
    (parts_of_all c.args.basis c.args.tree _ (map node_part c.args.nodes.now) c.args.phases.now (omega arith) c.in_ok-draft.ensures.draft)
    c.in_err-add_parts.ensures)

pub returns-clause-draft : goal.returns-clause-draft
returns-clause-draft c =
    sym (parts_of_all c.args.basis c.args.tree _ (map node_part c.args.nodes.now) c.args.phases.now (omega arith) c.in_ok-draft.ensures.draft)
    ∙ c.in_ok-add_parts.ensures

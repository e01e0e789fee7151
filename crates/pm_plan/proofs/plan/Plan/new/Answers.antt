-- Of `Plan::new`: its clause `phases`; what the type keeps.
use Rattle.std.proofs.Common.{◌∙◌, sym, ap, map, List}
use Rattle.std.proofs.lemmas.List.{length-map}
use Rattle.pm_plan.specs.declared.parts.NodeSpec.{NodeSpec}
use Rattle.pm_plan.specs.declared.parts.PhaseSpec.{PhaseSpec}
use Rattle.pm_plan.specs.Parts.{node_part, phase_part}
use Rattle.pm_plan.specs.Building.{checked_plan}
use Rattle.pm_plan.proofs.Sound.{checked_plan-keeps, checked_plan-phases}
use Rattle.pm_plan.proofs.plan.Plan.new.Goals as goal

pub invariant_of-result : goal.invariant_of-result
invariant_of-result c =
    checked_plan-keeps c.args.basis c.args.tree (map node_part c.args.nodes.items) (map phase_part c.args.phases.items) c.in_ok-draft.draft
    c.in_ok-draft.ensures.sound c.in_ok-draft.ensures.accepted c.in_ok-draft.ensures.lawful c.requires.nodes
    (ap (λ (nodes : List NodeSpec). checked_plan c.args.basis c.args.tree (map node_part nodes) (map phase_part c.args.phases.items))
    (sym c.deref.ensures.value)
    ∙ ap (λ (phases : List PhaseSpec). checked_plan c.args.basis c.args.tree (map node_part c.deref.result.now)
    (map phase_part phases)) (sym c.deref-2.ensures.value)
    ∙ c.in_ok-draft.ensures.draft)

pub returns-clause-phases : goal.returns-clause-phases
returns-clause-phases c =
    checked_plan-phases c.args.basis c.args.tree (map node_part c.args.nodes.items) (map phase_part c.args.phases.items) c.in_ok-draft.draft
    c.in_ok-draft.ensures.sound c.in_ok-draft.ensures.lawful c.requires.nodes
    (ap (λ (nodes : List NodeSpec). checked_plan c.args.basis c.args.tree (map node_part nodes)
    (map phase_part c.args.phases.items)) (sym c.deref.ensures.value)
    ∙ ap (λ (phases : List PhaseSpec). checked_plan c.args.basis c.args.tree (map node_part c.deref.result.now)
    (map phase_part phases)) (sym c.deref-2.ensures.value)
    ∙ c.in_ok-draft.ensures.draft)
    ∙ length-map c.args.phases.items phase_part

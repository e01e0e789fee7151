-- Of `make_sized`: its clauses `plan` and `phases`; what the calls of `new` and `allocation_failure` require.
use Rattle.std.proofs.Common.{◌≡◌, ◌∙◌, ℕ, List, map, length, ap, sym, refl}
use Rattle.std.proofs.lemmas.List.{length-map}
use Rattle.pm_plan.specs.Parts.{PhasePart, node_part, phase_part}
use Rattle.pm_plan.specs.Building.{checked_plan}
use Rattle.pm_gen.specs.Rounds.{demo_phases, rounds}
use Rattle.pm_gen.specs.Demo.{demo_plan_from}
use Rattle.pm_gen.proofs.Plans.{read_is_made, plan_fault_is_memory, nodes_of_tree}
use Rattle.pm_gen.proofs.demo.make_sized.Goals as goal

pub new-requires : goal.new-requires
new-requires c = record {
  nodes = nodes_of_tree c.args.size c.args.first.seed c.in_ok-tree.tree
      (map node_part c.in_ok-nodes.nodes.items) c.in_ok-tree.ensures.tree c.in_ok-nodes.ensures.nodes;
}

pub allocation_failure-requires : goal.allocation_failure-requires
allocation_failure-requires c =
    let nodes = map node_part c.in_ok-nodes.nodes.items in
    let phases = map phase_part c.in_ok-phases.phases.items in
    let same : checked_plan c.make_basis.result c.in_ok-tree.tree nodes phases ≡ demo_plan_from c.args.size c.args.first.seed =
    read_is_made c.args.size c.args.first.seed c.make_basis.result c.in_ok-tree.tree nodes phases c.make_basis.ensures
    c.in_ok-tree.ensures.tree c.in_ok-nodes.ensures.nodes
    (c.in_ok-phases.ensures ∙ ap (demo_phases c.args.size) c.in_ok-nodes.ensures.seed) in
    plan_fault_is_memory c.args.size c.args.first.seed c.in-Err.fault
    (checked_plan c.make_basis.result c.in_ok-tree.tree nodes phases) c.requires.some c.requires.few same c.in-Err.ensures.plan

pub returns-in-Ok-clause-plan : goal.returns-in-Ok-clause-plan
returns-in-Ok-clause-plan c =
    let nodes = map node_part c.in_ok-nodes.nodes.items in
    let phases = map phase_part c.in_ok-phases.phases.items in
    let same : checked_plan c.make_basis.result c.in_ok-tree.tree nodes phases ≡ demo_plan_from c.args.size c.args.first.seed =
    read_is_made c.args.size c.args.first.seed c.make_basis.result c.in_ok-tree.tree nodes phases c.make_basis.ensures
    c.in_ok-tree.ensures.tree c.in_ok-nodes.ensures.nodes
    (c.in_ok-phases.ensures ∙ ap (demo_phases c.args.size) c.in_ok-nodes.ensures.seed) in
    sym same ∙ c.in-Ok.ensures.plan

many_phases : (size seed : ℕ) → length (demo_phases size seed) ≡ 21
unfolding demo_phases rounds
many_phases size seed = refl

pub returns-in-Ok-clause-phases : goal.returns-in-Ok-clause-phases
returns-in-Ok-clause-phases c =
    c.in-Ok.ensures.phases ∙ sym (length-map c.in_ok-phases.phases.items phase_part)
    ∙ ap (λ (l : List PhasePart). length l) c.in_ok-phases.ensures ∙ many_phases c.args.size _

-- Of `new_concentrator`: what it ensures; what the calls of `children`, `limits`, `new` and `limited` require.
use Rattle.std.proofs.Common.{◌∙◌, ◌≡◌, ℕ, ℤ, sym, ap, subst, arith, rules, List, length, Some, Option, w64, FitsSigned, to_z, of_z}
use Rattle.std.proofs.lemmas.Int.{to_z-of_z}
use Rattle.std.proofs.lemmas.List.{length-map}
use Rattle.std.specs.Prelude.{IfOk}
use Rattle.pm_base.specs.Limits.{AreLimits}
use Rattle.pm_basis.specs.Prices.{BasisValue}
use Rattle.pm_concentrator.specs.Concentrators.{IsNewConcentrator}
use Rattle.pm_base.specs.declared.limits.Limits.{Limits}
use Rattle.pm_plan.specs.Plans.{node, limits_of}
use Rattle.pm_plan.proofs.MarketLists.{limits_around}
use Rattle.pm_tree.specs.declared.node.NodeId.{NodeId}
use Rattle.pm_tree.specs.Entries.{Entry, children_of}
use Rattle.pm_cluster.proofs.Parents.{nodes_are}
use Rattle.pm_cluster.proofs.Opened.{few_children, limits_read}
use Rattle.pm_cluster.proofs.opening.new_concentrator.Goals as goal
use Rattle.pm_cluster.proofs.opening.new_concentrator.Goals.{In-Some}

pub children-children-requires : goal.children-children-requires
children-children-requires c = omega (arith, c.requires.concentrator.1, nodes_are c.args.plan.now, ap length c.tree.ensures.tree)

pub limits-requires : goal.limits-requires
limits-requires c = omega (arith, c.requires.concentrator.1, nodes_are c.args.plan.now, c.tree.ensures.sound.nodes.one_each)

pub new-requires-clause-few_children : goal.new-requires-clause-few_children
new-requires-clause-few_children c =
    omega (
      arith,
      few_children c.args.plan.now c.args.node.0 c.tree.ensures.sound,
      length-map c.children-children.result.now (λ (n : NodeId). n.0),
      ap length c.children-children.ensures,
      ap (λ (l : List Entry). length (children_of l c.args.node.0)) c.tree.ensures.tree,
    )

pub limited-requires-clause-few_children : goal.limited-requires-clause-few_children
limited-requires-clause-few_children c =
    omega (
      arith,
      few_children c.args.plan.now c.args.node.0 c.tree.ensures.sound,
      length-map c.children-children.result.now (λ (n : NodeId). n.0),
      ap length c.children-children.ensures,
      ap (λ (l : List Entry). length (children_of l c.args.node.0)) c.tree.ensures.tree,
    )

are_limits : (c : In-Some) → AreLimits (record { floor = c.in-Some.floor; ceiling = c.in-Some.ceiling })
are_limits c =
    limits_around c.args.plan.now c.tree.ensures.sound c.args.node.0 _
    (limits_read (limits_of (node c.args.plan.now c.args.node.0)) c.in-Some.floor c.in-Some.ceiling c.in-Some.ensures)

read_back : (l : Limits) → AreLimits l → record { floor = to_z w64 (of_z w64 l.floor); ceiling = to_z w64 (of_z w64 l.ceiling) } ≡ l
read_back l are =
    let low : FitsSigned w64 l.floor = search rules in
    let high : FitsSigned w64 l.ceiling = search rules in
    ap (λ (z : ℤ). record { floor = z; ceiling = to_z w64 (of_z w64 l.ceiling) }) (to_z-of_z w64 l.floor low)
    ∙ ap (λ (z : ℤ). record { floor = l.floor; ceiling = z }) (to_z-of_z w64 l.ceiling high)

pub limited-requires-clause-limits : goal.limited-requires-clause-limits
limited-requires-clause-limits c = let are = are_limits (goal.at.limited-requires-clause-limits c).In-Some in subst AreLimits (sym (read_back _ are)) are

pub returns : goal.returns
returns c =
    let at = (goal.at.returns c).In-Some in
    let limits : Option Limits = limits_of (node c.args.plan.now c.args.node.0) in
    let children = sym (length-map c.children-children.result.now (λ (n : NodeId). n.0)) ∙ ap length c.children-children.ensures
    ∙ ap (λ (l : List Entry). length (children_of l c.args.node.0)) c.tree.ensures.tree in
    let steps = c.steps-steps.ensures.steps ∙ ap (λ (b : BasisValue). b.steps) c.basis.ensures.basis in
    let n : ℕ = length c.children-children.result.now in
    let same = ap Some (read_back _ (are_limits at)) ∙ sym (limits_read limits c.in-Some.floor c.in-Some.ceiling c.in-Some.ensures) in
    let of_limits = subst (λ (l : Option Limits). IfOk c.limited.result (IsNewConcentrator n c.steps-steps.result l)) same c.limited.ensures.new in
    let of_steps = subst (λ (m : ℕ). IfOk c.limited.result (IsNewConcentrator n m limits)) steps of_limits in
    record { new = subst (λ (m : ℕ). IfOk c.limited.result (IsNewConcentrator m c.args.plan.now.basis.steps limits)) children of_steps }

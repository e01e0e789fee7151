-- Of `read_shape`: what it ensures.
use Rattle.std.proofs.Common.{◌≡◌, ◌∙◌, ap, sym, subst, ◌<◌, ◌^◌, ℤ, eqb, of_z, w64, Bool, List, Ok, rules}
use Rattle.std.specs.Prelude.{codes}
use lib.Signed.{mag}
use Rattle.serde_json.specs.Data.{Data}
use Rattle.serde_json.specs.View.{view}
use Rattle.pm_basis.specs.Prices.{BasisValue}
use Rattle.pm_base.specs.Outcomes.{◌>>=◌, Refuses}
use Rattle.pm_base.proofs.Outcomes.{Refuses-first, Gives-err}
use Rattle.pm_plan.specs.Refusals.{refusal_in}
use Rattle.pm_plan.specs.Parts.{PhasePart}
use Rattle.pm_scene.specs.Values.{whole_at, elements_at}
use Rattle.pm_scene.specs.Nodes.{NamedPart, nodes_of}
use Rattle.pm_scene.specs.Phases.{phases_of}
use Rattle.pm_scene.specs.Shape.{shape_of, shape_on, shape_value, head_of, knows_limited}
use Rattle.pm_scene.proofs.shape.document.read_shape.Goals as goal

-- the version as the code compares it
limited_told : (version : ℤ) → mag version < 2 ^ 63 → eqb (of_z w64 version) 2 ≡ knows_limited version
limited_told version small = search rules

module _ (d : Data) (limited : Bool) (values : List Data) (limited_is : limited ≡ knows_limited (whole_at (codes "version") d))
    (values_are : values ≡ elements_at (codes "nodes") d) where
  -- what was read of these values is what the document says of its nodes
  nodes_same : nodes_of limited values ≡ nodes_of (knows_limited (whole_at (codes "version") d)) (elements_at (codes "nodes") d)
  nodes_same = λ i. nodes_of (limited_is i) (values_are i)

  -- what comes after the nodes, where basis and nodes were read
  after_nodes : (basis : BasisValue) (nodes : List NamedPart) → head_of d ≡ Ok basis → nodes_of limited values ≡ Ok nodes →
      (head_of d >>= shape_on d)
      ≡ (phases_of (elements_at (codes "phases") d) >>= λ phases. Ok (record { basis = basis; nodes = nodes; phases = phases }))
  after_nodes basis nodes head read =
      ap (λ r. r >>= shape_on d) head
      ∙ ap (λ r. r >>= λ parts. phases_of (elements_at (codes "phases") d) >>= λ phases.
      Ok (record { basis = basis; nodes = parts; phases = phases })) (sym nodes_same ∙ read)

  -- the shape, where all parts were read
  after_phases : (basis : BasisValue) (nodes : List NamedPart) (later : List Data) (phases : List PhasePart) → head_of d ≡ Ok basis →
      nodes_of limited values ≡ Ok nodes → later ≡ elements_at (codes "phases") d → phases_of later ≡ Ok phases →
      (head_of d >>= shape_on d) ≡ Ok (record { basis = basis; nodes = nodes; phases = phases })
  after_phases basis nodes later phases head read later_are read_too =
      after_nodes basis nodes head read
      ∙ ap (λ r. r >>= λ parts. Ok (record { basis = basis; nodes = nodes; phases = parts })) (ap phases_of (sym later_are) ∙ read_too)

pub returns-in_err-nodes : goal.returns-in_err-nodes
unfolding shape_of
returns-in_err-nodes c =
    let d = view c.args.value.now in
    let limited = limited_told c.whole_at-version.result c.whole_at-version.type_inv ∙ ap knows_limited c.whole_at-version.ensures in
    let refusal = refusal_in c.in_err-nodes.field-0.0 in
    Gives-err refusal_in shape_value _ _ _ c.from_residual-in_err-nodes.ensures.1
    (subst (λ head. Refuses refusal (head >>= shape_on d)) (sym c.in_ok-basis.ensures) (Refuses-first refusal _ _
    (subst (Refuses refusal) (nodes_same d _ _ limited c.elements_at.ensures) c.in_err-nodes.ensures)))

pub returns-in_err-phases : goal.returns-in_err-phases
unfolding shape_of
returns-in_err-phases c =
    let d = view c.args.value.now in
    let limited = limited_told c.whole_at-version.result c.whole_at-version.type_inv ∙ ap knows_limited c.whole_at-version.ensures in
    let refusal = refusal_in c.in_err-phases.field-0.0 in
    Gives-err refusal_in shape_value _ _ _ c.from_residual-in_err-phases.ensures.1
    (subst (Refuses refusal) (sym (after_nodes d _ _ limited c.elements_at.ensures _ _ c.in_ok-basis.ensures c.in_ok-nodes.ensures))
    (Refuses-first refusal _ _ (subst (λ values. Refuses refusal (phases_of values)) c.elements_at-2.ensures c.in_err-phases.ensures)))

pub returns : goal.returns
unfolding shape_of
returns c =
    let d = view c.args.value.now in
    let limited = limited_told c.whole_at-version.result c.whole_at-version.type_inv ∙ ap knows_limited c.whole_at-version.ensures in
    after_phases d _ _ limited c.elements_at.ensures _ _ _ _ c.in_ok-basis.ensures c.in_ok-nodes.ensures c.elements_at-2.ensures c.in_ok-phases.ensures

-- The plan of a file is one.
use Rattle.std.proofs.Common.{◌≡◌, ◌∙◌, sym, ap, subst, ℕ, List, Result, Ok, Err, codes}
use Rattle.std.proofs.lemmas.Simd.{map-map}
use Rattle.serde_json.specs.Data.{Data}
use Rattle.serde_json.specs.Find.{get}
use Rattle.pm_base.specs.Outcomes.{◌>>=◌, ◌>>◌}
use Rattle.pm_basis.specs.Prices.{BasisValue, IsBasis, checked_basis}
use Rattle.pm_basis.specs.declared.fault.BasisFault.{BasisFault}
use Rattle.pm_tree.specs.Entries.{Entry, checked_tree, leaves_of}
use Rattle.pm_tree.specs.declared.fault.TreeFault.{TreeFault}
use Rattle.pm_tree.specs.declared.fault.TreeFault.TheVariants.{TooMany, BadName, Twice, NoParent, TooDeep, NoMemory}
use Rattle.pm_plan.specs.Plans.{PlanData}
use Rattle.pm_plan.specs.Kept.{IsPlan}
use Rattle.pm_plan.specs.Parts.{PhasePart, is_device, AreNodesOf}
use Rattle.pm_plan.specs.Building.{checked_plan}
use Rattle.pm_plan.specs.Refusals.{need, check}
use Rattle.pm_plan.specs.declared.refusal.Cause.TheVariants as cause
use Rattle.pm_plan.specs.declared.refusal.Place.TheVariants.{Document, Basis}
use Rattle.pm_plan.proofs.Inversions.{bind-ok}
use Rattle.pm_plan.proofs.PublicLaws.{plans}
use Rattle.pm_scene.specs.Values.{json_value, whole_at, elements_at}
use Rattle.pm_scene.specs.Members.{members_check}
use Rattle.pm_scene.specs.Rows.{document_row, basis_row}
use Rattle.pm_scene.specs.Nodes.{NamedPart, nodes_of}
use Rattle.pm_scene.specs.Phases.{phases_of}
use Rattle.pm_scene.specs.Shape.{ShapeValue, basis_or_refuse, basis_of, is_version, head_of, shape_on, shape_of, knows_limited}
use Rattle.pm_scene.specs.Trees.{entry_in, entries_in, parts_in, tree_or_refuse, tree_of}
use Rattle.pm_scene.specs.Scene.{plan_of, scene}
use Rattle.pm_basis.proofs.SoundBases.{checked_is_basis}
use Rattle.pm_tree.proofs.LawfulTrees.{checked_is_tree}

-- where a step and what follows it give y, what follows gives y
behind : {A B E : Type 0} (r : Result A E) (next : Result B E) (y : B) → (r >> next) ≡ Ok y → next ≡ Ok y
behind (Ok x) next y is = is
behind (Err e) next y is = absurd (cc is)

basis_kept : (r : Result BasisValue BasisFault) (basis : BasisValue) → basis_or_refuse r ≡ Ok basis → r ≡ Ok basis
basis_kept (Ok b) basis is = let same : b ≡ basis = cc is in ap (λ (z : BasisValue). Ok z) same
basis_kept (Err fault) basis is = absurd (cc is)

tree_kept : (r : Result (List Entry) TreeFault) (tree : List Entry) → tree_or_refuse r ≡ Ok tree → r ≡ Ok tree
tree_kept (Ok t) tree is = let same : t ≡ tree = cc is in ap (λ (z : List Entry). Ok z) same
tree_kept (Err (TooMany have)) tree is = absurd (cc is)
tree_kept (Err (BadName at)) tree is = absurd (cc is)
tree_kept (Err (Twice at)) tree is = absurd (cc is)
tree_kept (Err (NoParent at)) tree is = absurd (cc is)
tree_kept (Err (TooDeep at)) tree is = absurd (cc is)
tree_kept (Err NoMemory) tree is = absurd (cc is)

basis_is : (d : Data) (basis : BasisValue) → basis_of d ≡ Ok basis → IsBasis basis
unfolding basis_of
basis_is d basis is =
    let min = whole_at (codes "min") d in
    let max = whole_at (codes "max") d in
    let steps = whole_at (codes "steps") d in
    checked_is_basis min max steps basis
    (basis_kept (checked_basis min max steps) basis (behind (members_check basis_row Basis d) (basis_or_refuse (checked_basis min max steps)) basis is))

head_is : (d : Data) (basis : BasisValue) → head_of d ≡ Ok basis → IsBasis basis
head_is d basis is =
    let prices = need cause.MissingMember Document (get (codes "basis") d) in
    let version = check cause.UnknownVersion Document (is_version (whole_at (codes "version") d)) in
    let rest = behind version (prices >>= basis_of) basis
    (behind (members_check document_row Document d) (version >> (prices >>= basis_of)) basis is) in
    let found = bind-ok prices basis_of basis rest in
    basis_is found.value basis found.rest

on_is : (d : Data) (basis : BasisValue) (shape : ShapeValue) → shape_on d basis ≡ Ok shape → basis ≡ shape.basis
on_is d basis shape is =
    let nodes = bind-ok (nodes_of (knows_limited (whole_at (codes "version") d)) (elements_at (codes "nodes") d))
    (λ (nodes : List NamedPart). phases_of (elements_at (codes "phases") d) >>=
    (λ (phases : List PhasePart). Ok (record { basis = basis; nodes = nodes; phases = phases }))) shape is in
    let phases = bind-ok (phases_of (elements_at (codes "phases") d))
    (λ (phases : List PhasePart). Ok (record { basis = basis; nodes = nodes.value; phases = phases })) shape nodes.rest in
    let made : Ok (record { basis = basis; nodes = nodes.value; phases = phases.value }) ≡ Ok shape = phases.rest in
    let same : record { basis = basis; nodes = nodes.value; phases = phases.value } ≡ shape = cc made in
    ap (λ (s : ShapeValue). s.basis) same

shape_basis : (d : Data) (shape : ShapeValue) → shape_of d ≡ Ok shape → IsBasis shape.basis
unfolding shape_of
shape_basis d shape is =
    let head = bind-ok (head_of d) (shape_on d) shape is in
    subst IsBasis (on_is d head.value shape head.rest) (head_is d head.value head.first)

nodes_are : (nodes : List NamedPart) → AreNodesOf (entries_in nodes) (parts_in nodes)
unfolding leaves_of
nodes_are nodes =
    map-map is_device (λ (node : NamedPart). node.part) nodes ∙ sym (map-map (λ (entry : Entry). entry.leaf) entry_in nodes)

plan_is : (shape : ShapeValue) (plan : PlanData) → IsBasis shape.basis → plan_of shape ≡ Ok plan → IsPlan plan
unfolding plan_of
plan_is shape plan basis is =
    let entries = entries_in shape.nodes in
    let found = bind-ok (tree_of entries) (λ (tree : List Entry). checked_plan shape.basis tree (parts_in shape.nodes) shape.phases) plan is in
    let accepted = tree_kept (checked_tree entries) found.value found.first in
    let lawful = checked_is_tree entries found.value accepted in
    plans shape.basis entries (parts_in shape.nodes) shape.phases plan basis (accepted ∙ ap (λ (es : List Entry). Ok es) (sym lawful.0)) lawful.1
    (nodes_are shape.nodes)
    (ap (λ (es : List Entry). checked_plan shape.basis es (parts_in shape.nodes) shape.phases) lawful.0 ∙ found.rest)

-- what a file gives without a refusal is a plan
pub files_plan : (bytes : List ℕ) (plan : PlanData) → scene bytes ≡ Ok plan → IsPlan plan
unfolding scene
files_plan bytes plan is =
    let document = bind-ok (need cause.Unreadable Document (json_value bytes)) (λ (d : Data). shape_of d >>= plan_of) plan is in
    let shape = bind-ok (shape_of document.value) plan_of plan document.rest in
    plan_is shape.value plan (shape_basis document.value shape.value shape.first) shape.rest

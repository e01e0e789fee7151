-- The shape of a file: its basis, its nodes and its phases, or the first refusal.
use Rattle.std.specs.Prelude.{ℤ, pos, Bool, ◌||◌, List, map, Result, Ok, Err, codes}
use Rattle.std.specs.Ordering.{int_eq}
use Rattle.serde_json.specs.Data.{Data}
use Rattle.serde_json.specs.Find.{get}
use Rattle.pm_basis.specs.Prices.{BasisValue, checked_basis}
use Rattle.pm_basis.specs.declared.fault.BasisFault.{BasisFault}
use Rattle.pm_plan.specs.Parts.{PhasePart, phase_part}
use Rattle.pm_plan.specs.Refusals.{refuse, need, check}
use Rattle.pm_base.specs.Outcomes.{◌>>=◌, ◌>>◌}
use Rattle.pm_plan.specs.declared.refusal.Cause.TheVariants as cause
use Rattle.pm_plan.specs.declared.refusal.Place.TheVariants.{Document, Basis}
use Rattle.pm_plan.specs.declared.refusal.Refusal.{Refusal}
use Rattle.pm_scene.specs.Values.{whole_at, elements_at}
use Rattle.pm_scene.specs.Members.{members_check}
use Rattle.pm_scene.specs.Rows.{document_row, basis_row}
use Rattle.pm_scene.specs.Nodes.{NamedPart, named_part, nodes_of}
use Rattle.pm_scene.specs.Phases.{phases_of}
use Rattle.pm_scene.specs.declared.shape.document.Shape.{Shape}

pub record ShapeValue : Type 0 where
  pub basis : BasisValue
  pub nodes : List NamedPart
  pub phases : List PhasePart

abbrev pub shape_value : Shape → ShapeValue
shape_value s = record { basis = s.basis; nodes = map named_part s.nodes.items; phases = map phase_part s.phases.items }

abbrev pub basis_or_refuse : Result BasisValue BasisFault → Result BasisValue Refusal
basis_or_refuse (Ok basis) = Ok basis
basis_or_refuse (Err fault) = refuse cause.BadBasis Basis

unfoldable pub basis_of : Data → Result BasisValue Refusal
basis_of d = do
  members_check basis_row Basis d
  basis_or_refuse (checked_basis (whole_at (codes "min") d) (whole_at (codes "max") d) (whole_at (codes "steps") d))

abbrev pub is_version : ℤ → Bool
is_version version = int_eq version (pos 1) || int_eq version (pos 2)

-- limited concentrators are known from version 2 on
abbrev pub knows_limited : ℤ → Bool
knows_limited version = int_eq version (pos 2)

-- the basis of a document; its members and its version are checked first
abbrev pub head_of : Data → Result BasisValue Refusal
head_of d = do
  members_check document_row Document d
  check cause.UnknownVersion Document (is_version (whole_at (codes "version") d))
  prices ← need cause.MissingMember Document (get (codes "basis") d)
  basis_of prices

-- the shape of a document with this basis
abbrev pub shape_on : Data → BasisValue → Result ShapeValue Refusal
shape_on d basis = do
  nodes ← nodes_of (knows_limited (whole_at (codes "version") d)) (elements_at (codes "nodes") d)
  phases ← phases_of (elements_at (codes "phases") d)
  Ok (record { basis = basis; nodes = nodes; phases = phases })

unfoldable pub shape_of : Data → Result ShapeValue Refusal
shape_of d = do
  basis ← head_of d
  shape_on d basis

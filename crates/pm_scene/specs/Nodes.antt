-- The nodes of a file: what their names, parents and members say, or the first refusal.
use Rattle.std.specs.Prelude.{ℕ, min, Bool, true, false, not, ◌&&◌, List, is_some, Result, Ok, codes, string_bytes}
use Rattle.serde_json.specs.Data.{Data}
use Rattle.serde_json.specs.Find.{get, as_str, as_object}
use Rattle.pm_plan.specs.Parts.{StatePart, number, array, points, NodePart, concentrator, limited, device, node_part}
use Rattle.pm_plan.specs.Refusals.{need, check}
use Rattle.pm_base.specs.Outcomes.{◌>>=◌, ◌>>◌, each_from}
use Rattle.pm_plan.specs.declared.refusal.Cause.TheVariants as cause
use Rattle.pm_plan.specs.declared.refusal.Place.{Place}
use Rattle.pm_plan.specs.declared.refusal.Place.TheVariants.{Node}
use Rattle.pm_plan.specs.declared.refusal.Refusal.{Refusal}
use Rattle.pm_scene.specs.Values.{whole_at, text_at, elements_at, wholes_of, pairs_of}
use Rattle.pm_scene.specs.Members.{members_check}
use Rattle.pm_scene.specs.Forms.{start_form}
use Rattle.pm_scene.specs.Kinds.{kind_named, node_row, device_kind}
use Rattle.pm_scene.specs.declared.kinds.KindName.{KindName}
use Rattle.pm_scene.specs.declared.kinds.KindName.TheVariants as names
use Rattle.pm_scene.specs.declared.forms.StartForm.{StartForm}
use Rattle.pm_scene.specs.declared.forms.StartForm.TheVariants as starts
use Rattle.pm_scene.specs.declared.shape.nodes.NamedNode.{NamedNode}

-- a node with its name and the name of its parent
pub record NamedPart : Type 0 where
  pub name : List ℕ
  pub parent : List ℕ
  pub part : NodePart

abbrev pub named_part : NamedNode → NamedPart
named_part n = record { name = string_bytes n.name; parent = string_bytes n.parent; part = node_part n.spec }

-- the number that stands in a place: the largest number of 32 bits stands for those past it too
abbrev pub place_number : ℕ → ℕ
place_number n = min n 4294967295

-- a demand for each step, and points, as an object has them
abbrev pub array_in : Data → StatePart
array_in d = array (wholes_of (elements_at (codes "demand") d))

abbrev pub points_in : Data → StatePart
points_in d = points (pairs_of (elements_at (codes "points") d))

abbrev pub names_limited : KindName → Bool
names_limited names.Limited = true
names_limited _ = false

-- the kind that a node names; limited concentrators are known or not
unfoldable pub kind_at : Bool → Place → Data → Result KindName Refusal
kind_at knows_limited place d = do
  check cause.WrongType place (is_some (as_object d))
  member ← need cause.MissingMember place (get (codes "kind") d)
  text ← need cause.WrongType place (as_str member)
  kind ← need cause.UnknownKind place (kind_named text)
  check cause.UnknownKind place (not (names_limited kind && not knows_limited))
  Ok kind

abbrev pub manual_start : StartForm → Data → StatePart
manual_start starts.Demand d = array_in d
manual_start starts.Points d = points_in d

-- the start of a device
abbrev pub start_part : KindName → Data → StatePart
start_part names.Manual d = manual_start (start_form d) d
start_part kind d = number (whole_at (codes "start") d)

abbrev pub kind_part : KindName → Data → NodePart
kind_part names.Concentrator d = concentrator
kind_part names.Limited d = limited (whole_at (codes "floor") d) (whole_at (codes "ceiling") d)
kind_part kind d = device (device_kind kind d) (start_part kind d)

-- the name of the parent; an objective stands under the auctioneer
abbrev pub parent_in : KindName → Data → List ℕ
parent_in names.Objective d = codes "auctioneer"
parent_in kind d = text_at (codes "parent") d

unfoldable pub node_of : Bool → Place → Data → Result NamedPart Refusal
node_of knows_limited place d = do
  kind ← kind_at knows_limited place d
  members_check (node_row kind d) place d
  Ok (record { name = text_at (codes "name") d; parent = parent_in kind d; part = kind_part kind d })

-- node n of the file, counted from 1
abbrev pub numbered_node : Bool → ℕ → Data → Result NamedPart Refusal
numbered_node knows_limited n d = node_of knows_limited (Node (place_number n)) d

unfoldable pub nodes_of : Bool → List Data → Result (List NamedPart) Refusal
nodes_of knows_limited ds = each_from 1 (numbered_node knows_limited) ds

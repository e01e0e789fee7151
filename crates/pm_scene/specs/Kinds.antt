-- The kinds of nodes: their names, the members of each in order, and the kind of device that these give.
use Rattle.std.specs.Prelude.{ℕ, List, [], ◌∷◌, ◌++◌, codes, Option, Some, None, if◌then◌else◌}
use Rattle.std.specs.Str.{bytes_eq}
use Rattle.serde_json.specs.Data.{Data}
use Rattle.pm_device.specs.declared.kind.Kind.{Kind}
use Rattle.pm_device.specs.declared.kind.Kind.TheVariants as kinds
use Rattle.pm_scene.specs.Values.{whole_at}
use Rattle.pm_scene.specs.Members.{Row}
use Rattle.pm_scene.specs.Forms.{start_form}
use Rattle.pm_scene.specs.Rows.{texts, wholes}
use Rattle.pm_scene.specs.declared.members.Form.TheVariants.{Wholes, Pairs}
use Rattle.pm_scene.specs.declared.kinds.KindName.{KindName}
use Rattle.pm_scene.specs.declared.kinds.KindName.TheVariants as names
use Rattle.pm_scene.specs.declared.forms.StartForm.{StartForm}
use Rattle.pm_scene.specs.declared.forms.StartForm.TheVariants as starts

-- the kinds by their names
abbrev pub kind_names : List (List ℕ × KindName)
kind_names =
    (codes "concentrator", names.Concentrator) ∷ (codes "limited", names.Limited) ∷ (codes "freezer", names.Freezer)
    ∷ (codes "heat_pump", names.HeatPump) ∷ (codes "cogeneration", names.Cogeneration) ∷ (codes "battery", names.Battery)
    ∷ (codes "solar", names.Solar) ∷ (codes "load", names.Load) ∷ (codes "objective", names.Objective)
    ∷ (codes "manual", names.Manual) ∷ []

-- the kind of a name in a list
abbrev pub kind_in : List (List ℕ × KindName) → List ℕ → Option KindName
kind_in [] text = None
kind_in (kind ∷ rest) text = if bytes_eq text kind.0 then Some kind.1 else kind_in rest text

abbrev pub kind_named : List ℕ → Option KindName
kind_named text = kind_in kind_names text

-- what each node has but the objective, which names no parent
abbrev pub node_texts : List Row
node_texts = texts (codes "name" ∷ codes "kind" ∷ codes "parent" ∷ [])

-- a heat pump and a cogeneration unit
abbrev pub heater_row : List Row
heater_row = node_texts ++ wholes (codes "low" ∷ codes "high" ∷ codes "power" ∷ codes "loss" ∷ codes "gain" ∷ codes "start" ∷ [])

-- a manual device, by the form of its start
abbrev pub manual_row : StartForm → List Row
manual_row starts.Demand = node_texts ++ (codes "demand", Wholes) ∷ []
manual_row starts.Points = node_texts ++ (codes "points", Pairs) ∷ []

abbrev pub node_row : KindName → Data → List Row
node_row names.Concentrator d = node_texts
node_row names.Limited d = node_texts ++ wholes (codes "floor" ∷ codes "ceiling" ∷ [])
node_row names.Freezer d =
    node_texts ++ wholes (codes "low" ∷ codes "high" ∷ codes "power" ∷ codes "warm" ∷ codes "cool" ∷ codes "start" ∷ [])
node_row names.HeatPump d = heater_row
node_row names.Cogeneration d = heater_row
node_row names.Battery d =
    node_texts ++ wholes (codes "capacity" ∷ codes "charge" ∷ codes "discharge" ∷ codes "spread" ∷ codes "start" ∷ [])
node_row names.Solar d = node_texts ++ wholes (codes "start" ∷ [])
node_row names.Load d = node_texts ++ wholes (codes "start" ∷ [])
node_row names.Objective d = texts (codes "name" ∷ codes "kind" ∷ []) ++ wholes (codes "start" ∷ [])
node_row names.Manual d = manual_row (start_form d)

-- the kind of a device with its parameters
abbrev pub device_kind : KindName → Data → Kind
device_kind names.Freezer d =
    kinds.Freezer (whole_at (codes "low") d) (whole_at (codes "high") d) (whole_at (codes "power") d)
    (whole_at (codes "warm") d) (whole_at (codes "cool") d)
device_kind names.HeatPump d =
    kinds.HeatPump (whole_at (codes "low") d) (whole_at (codes "high") d) (whole_at (codes "power") d)
    (whole_at (codes "loss") d) (whole_at (codes "gain") d)
device_kind names.Cogeneration d =
    kinds.Cogeneration (whole_at (codes "low") d) (whole_at (codes "high") d) (whole_at (codes "power") d)
    (whole_at (codes "loss") d) (whole_at (codes "gain") d)
device_kind names.Battery d =
    kinds.Battery (whole_at (codes "capacity") d) (whole_at (codes "charge") d) (whole_at (codes "discharge") d)
    (whole_at (codes "spread") d)
device_kind names.Solar d = kinds.Solar
device_kind names.Load d = kinds.Load
device_kind names.Objective d = kinds.Objective
device_kind names.Manual d = kinds.Manual
device_kind names.Concentrator d = kinds.Manual
device_kind names.Limited d = kinds.Manual

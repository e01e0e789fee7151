-- The members of each object but the nodes, in order.
use Rattle.std.specs.Prelude.{ℕ, List, [], ◌∷◌, codes}
use Rattle.serde_json.specs.Data.{Data}
use Rattle.pm_scene.specs.Members.{Row}
use Rattle.pm_scene.specs.Forms.{value_form}
use Rattle.pm_scene.specs.declared.members.Form.TheVariants.{Whole, Text, Array, Object, Wholes, Pairs}
use Rattle.pm_scene.specs.declared.forms.PhaseForm.{PhaseForm}
use Rattle.pm_scene.specs.declared.forms.PhaseForm.TheVariants as phases
use Rattle.pm_scene.specs.declared.forms.EventForm.{EventForm}
use Rattle.pm_scene.specs.declared.forms.EventForm.TheVariants as events
use Rattle.pm_scene.specs.declared.forms.ValueForm.{ValueForm}
use Rattle.pm_scene.specs.declared.forms.ValueForm.TheVariants as values

abbrev pub document_row : List Row
document_row = (codes "version", Whole) ∷ (codes "basis", Object) ∷ (codes "nodes", Array) ∷ (codes "phases", Array) ∷ []

abbrev pub texts : List (List ℕ) → List Row
texts [] = []
texts (name ∷ names) = (name, Text) ∷ texts names

abbrev pub wholes : List (List ℕ) → List Row
wholes [] = []
wholes (name ∷ names) = (name, Whole) ∷ wholes names

abbrev pub basis_row : List Row
basis_row = wholes (codes "min" ∷ codes "max" ∷ codes "steps" ∷ [])

abbrev pub phase_row : PhaseForm → List Row
phase_row phases.Events = (codes "events", Array) ∷ []
phase_row phases.Tick = (codes "tick", Whole) ∷ []

-- a state event, by the form of its value
abbrev pub state_row : ValueForm → List Row
state_row values.Value = (codes "state", Text) ∷ (codes "value", Whole) ∷ []
state_row values.Demand = (codes "state", Text) ∷ (codes "demand", Wholes) ∷ []
state_row values.Points = (codes "state", Text) ∷ (codes "points", Pairs) ∷ []

abbrev pub event_row : EventForm → Data → List Row
event_row events.Join d = (codes "join", Text) ∷ []
event_row events.Leave d = (codes "leave", Text) ∷ []
event_row events.State d = state_row (value_form d)

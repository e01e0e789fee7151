-- The forms of which an object has one.
use Rattle.std.specs.Prelude.{ℕ, List, [], ◌∷◌, codes, if◌then◌else◌}
use Rattle.serde_json.specs.Data.{Data}
use Rattle.pm_scene.specs.Values.{has_member}
use Rattle.pm_scene.specs.declared.forms.StartForm.{StartForm}
use Rattle.pm_scene.specs.declared.forms.StartForm.TheVariants as starts
use Rattle.pm_scene.specs.declared.forms.PhaseForm.{PhaseForm}
use Rattle.pm_scene.specs.declared.forms.PhaseForm.TheVariants as phases
use Rattle.pm_scene.specs.declared.forms.EventForm.{EventForm}
use Rattle.pm_scene.specs.declared.forms.EventForm.TheVariants as events
use Rattle.pm_scene.specs.declared.forms.ValueForm.{ValueForm}
use Rattle.pm_scene.specs.declared.forms.ValueForm.TheVariants as values

-- the form of the first of these members that is there; the form `missing` if none is
abbrev pub form_in : {F : Type 0} → F → List (List ℕ × F) → Data → F
form_in missing [] d = missing
form_in missing (form ∷ rest) d = if has_member form.0 d then form.1 else form_in missing rest d

-- if none of the members is there, the form is the first one, so that its member is missing
abbrev pub start_form : Data → StartForm
start_form d = form_in starts.Demand ((codes "demand", starts.Demand) ∷ (codes "points", starts.Points) ∷ []) d

abbrev pub phase_form : Data → PhaseForm
phase_form d = form_in phases.Events ((codes "events", phases.Events) ∷ (codes "tick", phases.Tick) ∷ []) d

abbrev pub event_form : Data → EventForm
event_form d =
    form_in events.Join ((codes "join", events.Join) ∷ (codes "leave", events.Leave) ∷ (codes "state", events.State) ∷ []) d

abbrev pub value_form : Data → ValueForm
value_form d =
    form_in values.Value ((codes "value", values.Value) ∷ (codes "demand", values.Demand) ∷ (codes "points", values.Points) ∷ []) d

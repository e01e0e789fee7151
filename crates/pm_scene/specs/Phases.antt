-- The phases of a file and their events, or the first refusal.
use Rattle.std.specs.Prelude.{ℕ, List, Result, Ok, codes}
use Rattle.serde_json.specs.Data.{Data}
use Rattle.pm_plan.specs.Parts.{StatePart, number, EventPart, join, state, leave, PhasePart, events, tick}
use Rattle.pm_base.specs.Outcomes.{◌>>=◌, ◌>>◌, each_from}
use Rattle.pm_plan.specs.declared.refusal.Place.{Place}
use Rattle.pm_plan.specs.declared.refusal.Place.TheVariants.{Phase, Event}
use Rattle.pm_plan.specs.declared.refusal.Refusal.{Refusal}
use Rattle.pm_scene.specs.Values.{whole_at, text_at, elements_at}
use Rattle.pm_scene.specs.Members.{members_check}
use Rattle.pm_scene.specs.Forms.{phase_form, event_form, value_form}
use Rattle.pm_scene.specs.Rows.{phase_row, event_row}
use Rattle.pm_scene.specs.Nodes.{place_number, points_in, array_in}
use Rattle.pm_scene.specs.declared.forms.PhaseForm.{PhaseForm}
use Rattle.pm_scene.specs.declared.forms.PhaseForm.TheVariants as phase_forms
use Rattle.pm_scene.specs.declared.forms.EventForm.{EventForm}
use Rattle.pm_scene.specs.declared.forms.EventForm.TheVariants as event_forms
use Rattle.pm_scene.specs.declared.forms.ValueForm.{ValueForm}
use Rattle.pm_scene.specs.declared.forms.ValueForm.TheVariants as value_forms

-- the state that an event sets
abbrev pub value_in : ValueForm → Data → StatePart
value_in value_forms.Value d = number (whole_at (codes "value") d)
value_in value_forms.Demand d = array_in d
value_in value_forms.Points d = points_in d

abbrev pub event_in : EventForm → Data → EventPart
event_in event_forms.Join d = join (text_at (codes "join") d)
event_in event_forms.Leave d = leave (text_at (codes "leave") d)
event_in event_forms.State d = state (text_at (codes "state") d) (value_in (value_form d) d)

unfoldable pub event_shape : Place → Data → Result EventPart Refusal
event_shape place d = do
  members_check (event_row (event_form d) d) place d
  Ok (event_in (event_form d) d)

-- event n of phase p, counted from 1
abbrev pub numbered_event : ℕ → ℕ → Data → Result EventPart Refusal
numbered_event p n d = event_shape (Event p (place_number n)) d

unfoldable pub events_of : ℕ → List Data → Result (List EventPart) Refusal
events_of p ds = each_from 1 (numbered_event p) ds

-- what a phase of a form holds
unfoldable pub phase_in : ℕ → PhaseForm → Data → Result PhasePart Refusal
phase_in p phase_forms.Tick d = Ok (tick (whole_at (codes "tick") d))
phase_in p phase_forms.Events d = do
  list ← events_of p (elements_at (codes "events") d)
  Ok (events list)

unfoldable pub phase_shape : ℕ → Data → Result PhasePart Refusal
phase_shape p d = do
  members_check (phase_row (phase_form d)) (Phase p) d
  phase_in p (phase_form d) d

-- phase n of the file, counted from 1
abbrev pub numbered_phase : ℕ → Data → Result PhasePart Refusal
numbered_phase n d = phase_shape (place_number n) d

unfoldable pub phases_of : List Data → Result (List PhasePart) Refusal
phases_of ds = each_from 1 numbered_phase ds

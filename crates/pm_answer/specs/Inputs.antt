-- What the input of a command means: a cluster file with what stands behind it, or why it is refused; and the status for it.
use Rattle.std.specs.Prelude.{◌≡◌, ℕ, ◌<◌, ◌≤◌, ℤ, List, [], length, None, Ok, Err}
use Rattle.pm_plan.specs.declared.refusal.Cause.TheVariants.{BadEnvelope, BadTarget}
use Rattle.pm_plan.specs.declared.refusal.Place.{Place}
use Rattle.pm_plan.specs.declared.refusal.Place.TheVariants.{Document, Line}
use Rattle.pm_plan.specs.declared.refusal.Refusal.{Refusal}
use Rattle.pm_plan.specs.Causes.{cause_code}
use Rattle.pm_plan.specs.Plans.{PlanData}
use Rattle.pm_plan.specs.States.{all_ends}
use Rattle.pm_report.specs.Report.{report_text}
use Rattle.pm_scene.specs.Scene.{scene}
use Rattle.pm_envelope.specs.Envelopes.{IsEnvelope}
use Rattle.pm_ask.specs.TargetLists.{IsListText, IsFirstBadLine}
use Rattle.pm_check.specs.Traces.{IsValidTrace, IsBadLine}
use Rattle.pm_answer.specs.declared.arguments.FileCommand.{FileCommand}
use Rattle.pm_answer.specs.declared.arguments.FileCommand.TheVariants.{Run, Trace, Check, Bill, Ask, Free}
use Rattle.pm_answer.specs.declared.status.Status.{Status}
use Rattle.pm_answer.specs.declared.status.Status.TheVariants.{Done, Invalid, TooLong, Refused}

-- the most bytes of an input
abbrev pub input_limit : FileCommand → ℕ
input_limit Run = 4194304
input_limit Trace = 4194304
input_limit Check = 536870912
input_limit Bill = 4194304
input_limit Ask = 8388608
input_limit Free = 4194304

-- the input has this cluster file, and this behind it: for check and ask it is an envelope, and else the file alone
abbrev pub HasFile : FileCommand → List ℕ → List ℕ → List ℕ → Type 0
HasFile Run input file rest = (file ≡ input) × (rest ≡ [])
HasFile Trace input file rest = (file ≡ input) × (rest ≡ [])
HasFile Check input file rest = IsEnvelope input file rest
HasFile Bill input file rest = (file ≡ input) × (rest ≡ [])
HasFile Ask input file rest = IsEnvelope input file rest
HasFile Free input file rest = (file ≡ input) × (rest ≡ [])

-- the input has a cluster file with this plan, and this behind it
pub record HasPlan (asked : FileCommand) (input : List ℕ) (plan : PlanData) (rest : List ℕ) : Type 0 where
  pub file : List ℕ
  pub has : HasFile asked input file rest
  pub means : scene file ≡ Ok plan

-- what stands behind the file is what the command takes: for ask the text of these targets, and else there are none; behind
-- the file of check stands a trace, of which no targets are asked
abbrev pub AreAsked : FileCommand → List ℕ → List ℤ → Type 0
AreAsked Run rest targets = targets ≡ []
AreAsked Trace rest targets = targets ≡ []
AreAsked Check rest targets = ⊥
AreAsked Bill rest targets = targets ≡ []
AreAsked Ask rest targets = IsListText targets rest
AreAsked Free rest targets = targets ≡ []

-- a refusal without an item
abbrev pub refusal_at : ℕ → Place → Refusal
refusal_at code place = record { code = code; place = place; item = None }

-- why an input is refused: it is no envelope; its file is refused; its plan stands, and a line behind it is no target
pub data IsRefusalOf (asked : FileCommand) (input : List ℕ) : Refusal → Type 0 where
  no_file : ((file rest : List ℕ) → HasFile asked input file rest → ⊥) → IsRefusalOf asked input (refusal_at (cause_code BadEnvelope) Document)
  bad_file : (file rest : List ℕ) (refusal : Refusal) → HasFile asked input file rest → scene file ≡ Err refusal → IsRefusalOf asked input refusal
  bad_target : (plan : PlanData) (rest : List ℕ) (line : ℕ) → asked ≡ Ask → HasPlan asked input plan rest → IsFirstBadLine line rest →
      IsRefusalOf asked input (refusal_at (cause_code BadTarget) (Line line))

-- the report of a plan: the plain auction at the end of each phase
unfoldable pub report_of : PlanData → List ℕ
report_of plan = report_text plan (all_ends plan)

-- the status for an input, once its text is written
pub data HasStatus (asked : FileCommand) (input : List ℕ) : Status → Type 0 where
  is_too_long : input_limit asked < length input → HasStatus asked input TooLong
  is_refused : length input ≤ input_limit asked → (refusal : Refusal) → IsRefusalOf asked input refusal → HasStatus asked input Refused
  is_done : length input ≤ input_limit asked → (plan : PlanData) (rest : List ℕ) (targets : List ℤ) → HasPlan asked input plan rest →
      AreAsked asked rest targets → HasStatus asked input Done
  is_valid : length input ≤ input_limit asked → (plan : PlanData) (rest : List ℕ) (moves : ℕ) → asked ≡ Check → HasPlan asked input plan rest →
      IsValidTrace plan (report_of plan) rest moves → HasStatus asked input Done
  is_invalid : length input ≤ input_limit asked → (plan : PlanData) (rest : List ℕ) (line : ℕ) → asked ≡ Check → HasPlan asked input plan rest →
      IsBadLine plan (report_of plan) rest line → HasStatus asked input Invalid

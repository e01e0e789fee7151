-- What a text that `market` wrote with the status Done, or Invalid, says of the bytes that it read.
use Rattle.std.specs.Prelude.{◌≡◌, ℕ, ◌≤◌, ℤ, List, length, Option, Some, None, Ok}
use Rattle.std.specs.Io.KnownBytes.{Consumes, IsAtEnd}
use Rattle.pm_market.specs.declared.journal.Line.{Line}
use Rattle.pm_plan.specs.Plans.{PlanData}
use Rattle.pm_plan.specs.Kept.{IsPlan}
use Rattle.pm_plan.specs.States.{all_ends}
use Rattle.pm_scene.specs.Scene.{scene}
use Rattle.pm_ask.specs.TargetLists.{IsListText}
use Rattle.pm_answer.specs.declared.arguments.Command.{Command}
use Rattle.pm_answer.specs.declared.arguments.Command.TheVariants.{File, Demo, Serve}
use Rattle.pm_answer.specs.declared.arguments.FileCommand.{FileCommand}
use Rattle.pm_answer.specs.declared.arguments.FileCommand.TheVariants.{Run, Trace, Check, Bill, Ask, Free}
use Rattle.pm_plan.specs.declared.refusal.Refusal.{Refusal}
use Rattle.pm_report.specs.Refusal.{refusal_line}
use Rattle.pm_report.specs.Report.{report_text}
use Rattle.pm_check.specs.Traces.{IsBadLine}
use Rattle.pm_answer.specs.Inputs.{input_limit, HasFile, HasPlan, AreAsked, IsRefusalOf}
use Rattle.pm_answer.specs.Answers.{valid_line, invalid_line}
use Rattle.pm_headline.specs.Reports.{IsReport}
use Rattle.pm_headline.specs.Traces.{TellsRun}
use Rattle.pm_headline.specs.Bills.{TellsBill}
use Rattle.pm_headline.specs.Targets.{AnswersTargets}
use Rattle.pm_headline.specs.Demos.{TellsDemo}

-- the source was read to its end, within the command's limit; what it had is the cluster file of this plan, and this behind it
pub record ReadFile (asked : FileCommand) (old new : Option (List ℕ)) (plan : PlanData) (rest : List ℕ) : Type 0 where
  pub input : List ℕ
  pub consumed : Consumes old new input
  pub at_end : IsAtEnd new
  pub short : length input ≤ input_limit asked
  pub file : List ℕ
  pub has : HasFile asked input file rest
  pub means : scene file ≡ Ok plan
  pub is_plan : IsPlan plan

-- the text tells a run of the plan
abbrev pub TellsSomeRun : PlanData → List ℕ → Type 0
TellsSomeRun plan text = (journal : List Line) × TellsRun plan journal text

-- the text says `valid` with a number of moves, and the trace behind the file tells a run of the plan with so many
abbrev pub ConfirmsTrace : PlanData → List ℕ → List ℕ → Type 0
ConfirmsTrace plan trace text = (journal : List Line) × TellsRun plan journal trace × (text ≡ valid_line (length journal))

-- the text says `invalid` with a line, the trace behind the file tells no run of the plan, and that line is its first bad one: each
-- line before it is due after those before it, and it is not
abbrev pub RefutesTrace : PlanData → List ℕ → List ℕ → Type 0
RefutesTrace plan trace text = (line : ℕ) × (text ≡ invalid_line line) × ((journal : List Line) → TellsRun plan journal trace → ⊥)
    × IsBadLine plan (report_text plan (all_ends plan)) trace line

-- the text answers the targets behind the file
abbrev pub AnswersList : PlanData → List ℕ → List ℕ → Type 0
AnswersList plan rest text = (targets : List ℤ) × IsListText targets rest × AnswersTargets plan targets text

-- what a text says of the plan of a file, and of what stands behind the file
abbrev pub TellsPlan : FileCommand → PlanData → List ℕ → List ℕ → Type 0
TellsPlan Run plan rest text = IsReport plan text
TellsPlan Free plan rest text = IsReport plan text
TellsPlan Trace plan rest text = TellsSomeRun plan text
TellsPlan Check plan rest text = ConfirmsTrace plan rest text
TellsPlan Bill plan rest text = TellsBill plan text
TellsPlan Ask plan rest text = AnswersList plan rest text

-- what a text with the status Done says of the bytes that were read
pub record TellsFile (asked : FileCommand) (old new : Option (List ℕ)) (text : List ℕ) : Type 0 where
  pub plan : PlanData
  pub rest : List ℕ
  pub read : ReadFile asked old new plan rest
  pub tells : TellsPlan asked plan rest text

-- the headline: what a text that was written with the status Done tells, by what the arguments ask. Of a service, whose
-- text answers a stream of bids, nothing is said here
abbrev pub TellsTheMarket : Option Command → Option (List ℕ) → Option (List ℕ) → List ℕ → Type 0
TellsTheMarket (Some (File asked)) old new text = TellsFile asked old new text
TellsTheMarket (Some (Demo size number)) old new text = TellsDemo size number text
TellsTheMarket (Some Serve) old new text = Unit {0}
TellsTheMarket None old new text = ⊥

-- and with the status Invalid
pub record RefutesFile (command : Option Command) (old new : Option (List ℕ)) (text : List ℕ) : Type 0 where
  pub asks : command ≡ Some (File Check)
  pub plan : PlanData
  pub trace : List ℕ
  pub read : ReadFile Check old new plan trace
  pub refutes : RefutesTrace plan trace text

-- and with the status Refused, of an input: its line tells why, and nothing that the command asks for stands there
pub record RefusesInput (asked : FileCommand) (old new : Option (List ℕ)) (text : List ℕ) : Type 0 where
  pub input : List ℕ
  pub consumed : Consumes old new input
  pub at_end : IsAtEnd new
  pub short : length input ≤ input_limit asked
  pub refusal : Refusal
  pub why : IsRefusalOf asked input refusal
  pub written : text ≡ refusal_line refusal
  pub nothing_asked : (plan : PlanData) (rest : List ℕ) (targets : List ℤ) → HasPlan asked input plan rest → AreAsked asked rest targets → ⊥
  pub no_trace : asked ≡ Check → (plan : PlanData) (rest : List ℕ) → HasPlan asked input plan rest → ⊥

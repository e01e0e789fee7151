-- What is due for an input: the text that is asked for of its plan, with a status.
use Rattle.std.specs.Prelude.{◌≡◌, ℕ, ℤ, List, [], ◌∷◌, codes, decimal, Ok}
use Rattle.pm_market.specs.Moves.{IsComplete}
use Rattle.pm_market.specs.declared.journal.Line.{Line}
use Rattle.pm_plan.specs.Plans.{PlanData, phases, end_cut}
use Rattle.pm_plan.specs.Auction.{total}
use Rattle.pm_plan.specs.States.{state, all_ends}
use Rattle.pm_plan.specs.Market.{plan_lists}
use Rattle.pm_plan.specs.declared.refusal.Refusal.{Refusal}
use Rattle.pm_gen.specs.Demo.{demo_plan}
use Rattle.pm_report.specs.Words.{text_line}
use Rattle.pm_report.specs.Trace.{trace_text}
use Rattle.pm_report.specs.Summary.{summary_text}
use Rattle.pm_report.specs.Refusal.{refusal_line}
use Rattle.pm_bill.specs.Text.{bill_text}
use Rattle.pm_bill.specs.Runs.{plan_bill}
use Rattle.pm_ask.specs.Texts.{ask_text}
use Rattle.pm_check.specs.Traces.{IsValidTrace, IsBadLine}
use Rattle.pm_cluster.specs.Acts.{moves_of}
use Rattle.pm_board.specs.Boards.{IsJournal}
use Rattle.pm_answer.specs.declared.arguments.FileCommand.{FileCommand}
use Rattle.pm_answer.specs.declared.arguments.FileCommand.TheVariants.{Run, Trace, Check, Bill, Ask, Free}
use Rattle.pm_answer.specs.declared.status.Status.{Status}
use Rattle.pm_answer.specs.declared.status.Status.TheVariants.{Done, Invalid, Refused}
use Rattle.pm_answer.specs.Inputs.{HasPlan, AreAsked, IsRefusalOf, report_of}

-- the journal of a run: it is legal, its lines tell what devices held, and it closes every phase
pub record IsCompleteJournal (plan : PlanData) (journal : List Line) : Type 0 where
  pub legal : IsJournal plan journal
  pub complete : IsComplete (plan_lists plan) (moves_of journal)

-- the text is the report of the plan and the lines of the journal of a run
abbrev pub IsTrace : PlanData → List ℕ → Type 0
IsTrace plan text = (journal : List Line) × IsCompleteJournal plan journal × (text ≡ trace_text plan (all_ends plan) journal)

-- the total of the plain auction at the end of the last phase
unfoldable pub last_total : PlanData → List ℤ
last_total plan = total plan (state plan) (end_cut plan (phases plan))

-- the text that is asked for of a plan, and of targets; check asks for none
abbrev pub IsTextOf : FileCommand → PlanData → List ℤ → List ℕ → Type 0
IsTextOf Run plan targets text = text ≡ report_of plan
IsTextOf Trace plan targets text = IsTrace plan text
IsTextOf Check plan targets text = ⊥
IsTextOf Bill plan targets text = text ≡ bill_text plan (plan_bill plan)
IsTextOf Ask plan targets text = text ≡ ask_text plan.basis (last_total plan) targets
IsTextOf Free plan targets text = text ≡ report_of plan

-- valid moves M, for a trace of so many moves
abbrev pub valid_line : ℕ → List ℕ
valid_line moves = text_line (codes "valid" ∷ codes "moves" ∷ decimal moves ∷ [])

-- invalid line N, for a trace with this bad line
abbrev pub invalid_line : ℕ → List ℕ
invalid_line line = text_line (codes "invalid" ∷ codes "line" ∷ decimal line ∷ [])

-- the text is the summary of the demo cluster of this size and number
abbrev pub IsSummary : ℕ → ℕ → List ℕ → Type 0
IsSummary size number text = (plan : PlanData) × (demo_plan size number ≡ Ok plan) × (text ≡ summary_text size number plan (all_ends plan))

-- what is due for an input that was read to its end: Refused, with the line of its refusal; Done, with the text that is
-- asked for of its plan; or for a trace Done or Invalid, with the number of its moves or its bad line
pub data IsAnswer (asked : FileCommand) (input : List ℕ) : Status → List ℕ → Type 0 where
  refused : (refusal : Refusal) → IsRefusalOf asked input refusal → IsAnswer asked input Refused (refusal_line refusal)
  planned : (plan : PlanData) (rest : List ℕ) (targets : List ℤ) (text : List ℕ) → HasPlan asked input plan rest → AreAsked asked rest targets →
      IsTextOf asked plan targets text → IsAnswer asked input Done text
  valid : (plan : PlanData) (rest : List ℕ) (moves : ℕ) → asked ≡ Check → HasPlan asked input plan rest →
      IsValidTrace plan (report_of plan) rest moves → IsAnswer asked input Done (valid_line moves)
  invalid : (plan : PlanData) (rest : List ℕ) (line : ℕ) → asked ≡ Check → HasPlan asked input plan rest →
      IsBadLine plan (report_of plan) rest line → IsAnswer asked input Invalid (invalid_line line)

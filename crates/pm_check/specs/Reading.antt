-- How far a trace was read.
use Rattle.std.specs.Prelude.{◌≡◌, ℕ, List, [], ◌++◌, length}
use Rattle.pm_market.specs.Moves.{LegalJournal, after}
use Rattle.pm_market.specs.Market.{market_state}
use Rattle.pm_market.specs.declared.moves.Move.{Move}
use Rattle.pm_plan.specs.Plans.{PlanData}
use Rattle.pm_plan.specs.Market.{plan_lists}
use Rattle.pm_check.specs.Lines.{AreLinesOf, text_of_lines}
use Rattle.pm_check.specs.Traces.{journal_lines}
use Rattle.pm_check.specs.Judges.{IsJudge}
use Rattle.pm_check.specs.declared.judge.Judge.{Judge}

-- the trace begins with the report, of so many lines, and this stands behind it
pub record IsReported (report trace : List ℕ) (lines : ℕ) (rest : List ℕ) : Type 0 where
  pub report_lines : List (List ℕ)
  pub lines_are : AreLinesOf report report_lines []
  pub count : lines ≡ length report_lines
  pub parts : trace ≡ text_of_lines report_lines ++ rest

-- after these lines of the report come those of a legal journal, and this stands behind them
pub record HasReadTo (plan : PlanData) (report_lines : List (List ℕ)) (trace : List ℕ) (journal : List Move) (rest : List ℕ) : Type 0 where
  pub legal : LegalJournal (plan_lists plan) journal
  pub parts : trace ≡ text_of_lines report_lines ++ (text_of_lines (journal_lines plan journal) ++ rest)

-- a judge has read so far behind the report, of so many lines: it has made the moves of a journal, so many
pub record IsJudging (plan : PlanData) (report trace : List ℕ) (lines : ℕ) (judge : Judge) (moves : ℕ) (rest : List ℕ) : Type 0 where
  pub report_lines : List (List ℕ)
  pub lines_are : AreLinesOf report report_lines []
  pub count : lines ≡ length report_lines
  pub journal : List Move
  pub read : HasReadTo plan report_lines trace journal rest
  pub sound : IsJudge plan judge
  pub made : market_state judge.market ≡ after (plan_lists plan) journal
  pub many : moves ≡ length journal

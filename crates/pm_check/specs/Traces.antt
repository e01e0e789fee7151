-- Which line of a trace is due, which traces are valid, and the bad line of one that is not.
use Rattle.std.specs.Prelude.{◌≡◌, ◌≢◌, ℕ, ◌+◌, List, [], ◌∷◌, ◌++◌, length, map, ⊤}
use Rattle.pm_market.specs.Moves.{Legal, LegalJournal, IsComplete, after}
use Rattle.pm_market.specs.Held.{line_of, lines}
use Rattle.pm_market.specs.declared.moves.Move.{Move}
use Rattle.pm_plan.specs.Plans.{PlanData}
use Rattle.pm_plan.specs.Market.{plan_lists}
use Rattle.pm_offer.specs.Offers.{local_step_at}
use Rattle.pm_report.specs.Trace.{move_line, moves_line}
use Rattle.pm_check.specs.declared.fault.CheckFault.{CheckFault}
use Rattle.pm_check.specs.declared.fault.CheckFault.TheVariants.{Invalid, NoMemory}
use Rattle.pm_check.specs.Lines.{AreLinesOf, text_of_lines}

-- the lines that tell the moves of a journal, with what devices then held
abbrev pub journal_lines : PlanData → List Move → List (List ℕ)
journal_lines plan journal = map (move_line plan) (lines (plan_lists plan) (local_step_at plan) journal)

-- the line that tells a move which is made after a journal
abbrev pub next_line : PlanData → List Move → Move → List ℕ
next_line plan journal m = move_line plan (line_of (plan_lists plan) (local_step_at plan) (after (plan_lists plan) journal) m)

-- moves M, with the number of moves of a journal
abbrev pub count_line : PlanData → List Move → List ℕ
count_line plan journal = moves_line (lines (plan_lists plan) (local_step_at plan) journal)

-- the line is due after the lines before it
pub data IsLineDue (plan : PlanData) (report before : List (List ℕ)) (line : List ℕ) : Type 0 where
  -- it is the next line of the report
  in_report : (more : List (List ℕ)) → report ≡ before ++ line ∷ more → IsLineDue plan report before line
  -- the report is followed by a legal journal that is not complete, and the line tells a move that is legal after it
  next_move : (journal : List Move) (m : Move) → before ≡ report ++ journal_lines plan journal → LegalJournal (plan_lists plan) journal →
      ¬ (IsComplete (plan_lists plan) journal) → Legal (plan_lists plan) (after (plan_lists plan) journal) m → line ≡ next_line plan journal m →
      IsLineDue plan report before line
  -- the report is followed by a legal journal that is complete, and the line tells how many moves that has
  count : (journal : List Move) → before ≡ report ++ journal_lines plan journal → LegalJournal (plan_lists plan) journal →
      IsComplete (plan_lists plan) journal → line ≡ count_line plan journal → IsLineDue plan report before line

-- each of the lines is due after those before it
abbrev pub AreLinesDue : PlanData → List (List ℕ) → List (List ℕ) → Type 0
AreLinesDue plan report trace = (before more : List (List ℕ)) (line : List ℕ) → trace ≡ before ++ line ∷ more → IsLineDue plan report before line

-- a valid trace: the report, the lines of a legal and complete journal of so many moves, and their number
pub record IsValidTrace (plan : PlanData) (report trace : List ℕ) (moves : ℕ) : Type 0 where
  pub journal : List Move
  pub legal : LegalJournal (plan_lists plan) journal
  pub complete : IsComplete (plan_lists plan) journal
  pub text : trace ≡ report ++ (text_of_lines (journal_lines plan journal) ++ count_line plan journal)
  pub count : moves ≡ length journal

-- the first line, counted from 1, that is not one due or has no end, or the first line due that is missing
pub data IsBadAmong (plan : PlanData) (report : List (List ℕ)) (trace : List ℕ) (number : ℕ) : Type 0 where
  not_due : (before more : List (List ℕ)) (line rest : List ℕ) → AreLinesOf trace (before ++ line ∷ more) rest → AreLinesDue plan report before →
      ¬ (IsLineDue plan report before line) → number ≡ length before + 1 → IsBadAmong plan report trace number
  no_end : (before : List (List ℕ)) (rest : List ℕ) → AreLinesOf trace before rest → AreLinesDue plan report before → rest ≢ [] →
      number ≡ length before + 1 → IsBadAmong plan report trace number
  missing : (before : List (List ℕ)) (line : List ℕ) → AreLinesOf trace before [] → AreLinesDue plan report before →
      IsLineDue plan report before line →
      number ≡ length before + 1 → IsBadAmong plan report trace number

-- the bad line of a trace, by a report of whole lines
pub record IsBadLine (plan : PlanData) (report trace : List ℕ) (number : ℕ) : Type 0 where
  pub report_lines : List (List ℕ)
  pub lines_are : AreLinesOf report report_lines []
  pub bad : IsBadAmong plan report_lines trace number

-- a trace is refused at its bad line
abbrev pub IsFaultOfTrace : PlanData → List ℕ → List ℕ → CheckFault → Type 0
IsFaultOfTrace plan report trace (Invalid line) = IsBadLine plan report trace line
IsFaultOfTrace plan report trace NoMemory = ⊤

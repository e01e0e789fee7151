-- Each line of a legal journal is a line of a run: it names nodes and steps of the plan, only a device that a price is
-- passed to holds one, and its numbers have 32 bits.
use Rattle.std.proofs.Common.{◌≡◌, sym, subst, List}
use Rattle.std.specs.Prelude.{All}
use Rattle.pm_market.specs.State.{start}
use Rattle.pm_market.specs.declared.journal.Line.{Line}
use Rattle.pm_laws.proofs.Kept.{sound_start}
use Rattle.pm_plan.specs.Plans.{PlanData}
use Rattle.pm_plan.specs.Kept.{IsPlan}
use Rattle.pm_plan.specs.Market.{plan_lists}
use Rattle.pm_plan.proofs.MarketLists.{lawful}
use Rattle.pm_plan.specs.States.{all_ends}
use Rattle.pm_report.specs.Trace.{IsLineOf, IsLineOfRun, trace_text}
use Rattle.pm_report.proofs.Traces.{same_journal}
use Rattle.pm_check.proofs.RunLines.{lines_are}
use Rattle.pm_cluster.specs.Acts.{moves_of}
use Rattle.pm_board.specs.Boards.{IsJournal}

module _ (plan : PlanData) (is_plan : IsPlan plan) where
  -- each line of a legal journal of the plan is a line of a run
  pub journal_lines : (journal : List Line) → IsJournal plan journal → All (IsLineOfRun plan) journal
  journal_lines journal is = subst (All (IsLineOfRun plan)) (sym is.told)
      (lines_are plan is_plan (moves_of journal) start (sound_start (plan_lists plan) (lawful plan is_plan)) is.legal)

-- what each line of a run keeps, it keeps of the plan
pub of_plan : (plan : PlanData) (journal : List Line) → All (IsLineOfRun plan) journal → All (IsLineOf plan) journal
of_plan plan journal are i d inside = (are i d inside).of_plan

-- two legal journals of a plan with the same trace are the same
pub traces_tell : (plan : PlanData) (a b : List Line) → IsPlan plan → IsJournal plan a → IsJournal plan b →
    trace_text plan (all_ends plan) a ≡ trace_text plan (all_ends plan) b → a ≡ b
traces_tell plan a b is_plan is_a is_b same =
    same_journal plan (all_ends plan) a b is_plan (journal_lines plan is_plan a is_a) (journal_lines plan is_plan b is_b) same

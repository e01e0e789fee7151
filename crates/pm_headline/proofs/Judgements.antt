-- What a judge says of a trace is what the trace tells.
use Rattle.std.proofs.Common.{◌≡◌, ◌∙◌, sym, ap, subst, refl, ℕ, List, [], ◌∷◌, ◌++◌, length, map}
use Rattle.std.specs.List.{flat_map}
use Rattle.std.proofs.lemmas.List.Folds.{flat_map-map}
use Rattle.pm_base.specs.Cuts.{Cut}
use Rattle.pm_market.specs.Lists.{Lists}
use Rattle.pm_market.specs.State.{State, start}
use Rattle.pm_market.specs.Moves.{LegalJournal, IsComplete, step}
use Rattle.pm_market.specs.Held.{lines, lines_from}
use Rattle.pm_market.specs.declared.moves.Move.{Move}
use Rattle.pm_market.specs.declared.journal.Line.{Line}
use Rattle.pm_plan.specs.Plans.{PlanData}
use Rattle.pm_plan.specs.Kept.{IsPlan}
use Rattle.pm_plan.specs.States.{all_ends}
use Rattle.pm_plan.specs.Market.{plan_lists}
use Rattle.pm_offer.specs.Offers.{local_step_at}
use Rattle.pm_report.specs.Report.{report_text}
use Rattle.pm_report.specs.Trace.{trace_text, move_line, moves_line}
use Rattle.pm_check.specs.Lines.{text_of_lines}
use Rattle.pm_check.specs.Traces.{journal_lines, count_line, IsValidTrace, IsBadLine}
use Rattle.pm_check.proofs.Judgements.{not_both as not_judged_twice}
use Rattle.pm_check.proofs.RunLines.{count_lines}
use Rattle.pm_cluster.specs.Acts.{moves_of}
use Rattle.pm_answer.specs.Inputs.{report_of}
use Rattle.pm_answer.specs.Answers.{IsCompleteJournal, valid_line, invalid_line}
use Rattle.pm_headline.specs.Promises.{ConfirmsTrace, RefutesTrace}
use Rattle.pm_headline.proofs.Journals.{tells_run, told_run}

-- the moves of the lines of some moves are these
moves_again : (lists : Lists) (place : Cut → ℕ → ℕ) (moves : List Move) (s : State) → moves_of (lines_from lists place s moves) ≡ moves
moves_again lists place [] s = refl
moves_again lists place (m ∷ moves) s = ap (λ (rest : List Move). m ∷ rest) (moves_again lists place moves (step lists s m))

module _ (plan : PlanData) (is_plan : IsPlan plan) where
  abbrev lists : Lists
  lists = plan_lists plan

  lines_joined : (moves : List Line) → text_of_lines (map (move_line plan) moves) ≡ flat_map (move_line plan) moves
  lines_joined moves = flat_map-map (λ (line : List ℕ). line) (move_line plan) moves

  -- the text of a trace that a judge calls valid is that of its journal
  valid_text : (moves : List Move) → let journal = lines lists (local_step_at plan) moves in
      report_of plan ++ (text_of_lines (journal_lines plan moves) ++ count_line plan moves) ≡ trace_text plan (all_ends plan) journal
  unfolding report_of trace_text
  valid_text moves =
      let journal = lines lists (local_step_at plan) moves in
      ap (λ (text : List ℕ). report_text plan (all_ends plan) ++ (text ++ moves_line journal)) (lines_joined journal)

  -- a valid trace is confirmed
  pub confirmed : (trace : List ℕ) (moves : ℕ) → IsValidTrace plan (report_of plan) trace moves → ConfirmsTrace plan trace (valid_line moves)
  confirmed trace moves is =
      let journal : List Line = lines lists (local_step_at plan) is.journal in
      let again : moves_of journal ≡ is.journal = moves_again lists (local_step_at plan) is.journal start in
      let whole : IsCompleteJournal plan journal = record {
        legal = record {
          legal = subst (LegalJournal lists) (sym again) is.legal;
          told = ap (lines lists (local_step_at plan)) (sym again);
        };
        complete = subst (IsComplete lists) (sym again) is.complete;
      } in (
        journal,
        tells_run plan is_plan journal trace whole (is.text ∙ valid_text is.journal),
        ap valid_line (is.count ∙ sym (count_lines plan is_plan is.journal)),
      )

  -- a trace with a bad line tells no run
  pub refuted : (trace : List ℕ) (line : ℕ) → IsBadLine plan (report_of plan) trace line → RefutesTrace plan trace (invalid_line line)
  unfolding report_of
  refuted trace line bad = (
    line,
    refl,
    λ journal tells.
        let told = told_run plan is_plan journal trace tells in
        let moves : List Move = moves_of journal in
        let same : journal ≡ lines lists (local_step_at plan) moves = told.0.legal.told in
        let text : trace ≡ report_of plan ++ (text_of_lines (journal_lines plan moves) ++ count_line plan moves) =
        told.1 ∙ ap (trace_text plan (all_ends plan)) same ∙ sym (valid_text moves) in
        not_judged_twice plan is_plan (report_of plan) trace (length moves) line
        (record { journal = moves; legal = told.0.legal.legal; complete = told.0.complete; text = text; count = refl }) bad,
    bad,
  )

-- The report of a plan is a list of lines.
use Rattle.std.proofs.Common.{◌≡◌, ◌∙◌, ap, sym, subst, refl, ℕ, List, [], ◌∷◌, ◌++◌, append_assoc}
use Rattle.std.specs.Prelude.{codes, decimal}
use Rattle.pm_plan.specs.Plans.{PlanData, phases, all_changes}
use Rattle.pm_plan.specs.States.{all_ends}
use Rattle.pm_report.specs.Words.{text_line}
use Rattle.pm_report.specs.Report.{report_text, phase_texts}
use Rattle.pm_check.specs.Lines.{AreLinesOf}
use Rattle.pm_check.proofs.TextLines.{ended_lines}
use Rattle.pm_answer.specs.Inputs.{report_of}

-- a line of words has a line feed at its end
ended : (words : List (List ℕ)) → (front : List ℕ) × (text_line words ≡ front ++ 10 ∷ [])
ended [] = ([], refl)
ended (word ∷ []) = (word, refl)
ended (word ∷ next ∷ more) =
    let rest = ended (next ∷ more) in
    (word ++ 32 ∷ rest.0, ap (λ line. word ++ 32 ∷ line) rest.1 ∙ sym (append_assoc word (32 ∷ rest.0) (10 ∷ [])))

-- so has the report
pub report_lines : (plan : PlanData) → (lines : List (List ℕ)) × AreLinesOf (report_of plan) lines []
unfolding report_of report_text
report_lines plan =
    let last = ended (codes "end" ∷ codes "phases" ∷ decimal (phases plan) ∷ codes "changes" ∷ decimal (all_changes plan.nodes) ∷ []) in
    let front = phase_texts plan 1 (all_ends plan) in
    let lines = ended_lines (front ++ last.0) in
    let same : report_of plan ≡ (front ++ last.0) ++ 10 ∷ [] = ap (λ line. front ++ line) last.1 ∙ sym (append_assoc front last.0 (10 ∷ [])) in
    (lines.0, subst (λ (text : List ℕ). AreLinesOf text lines.0 []) (sym same) lines.1)

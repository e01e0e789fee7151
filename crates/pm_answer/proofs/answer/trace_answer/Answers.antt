-- Of `trace_answer`: what it ensures; what the call of `check` requires.
use Rattle.std.proofs.Common.{◌≡◌, ◌∙◌, sym, subst, ap, refl, ℕ, List, []}
use Rattle.pm_plan.specs.Plans.{PlanData}
use Rattle.pm_check.specs.Lines.{AreLinesOf}
use Rattle.pm_check.specs.Traces.{IsValidTrace, IsBadLine, IsFaultOfTrace}
use Rattle.pm_answer.specs.Inputs.{HasPlan, report_of}
use Rattle.pm_answer.specs.Answers.{IsAnswer, valid, invalid, valid_line, invalid_line}
use Rattle.pm_answer.specs.declared.arguments.FileCommand.TheVariants.{Check}
use Rattle.pm_answer.specs.declared.status.Status.TheVariants.{Done, Invalid}
use Rattle.pm_answer.proofs.Reports.{report_lines}
use Rattle.pm_answer.proofs.answer.trace_answer.Goals as goal

module _ (input rest : List ℕ) (plan : PlanData) (has : HasPlan Check input plan rest) (report : List ℕ)
    (due : report ≡ report_of plan) where
  valid_answers : (moves : ℕ) (text : List ℕ) → IsValidTrace plan report rest moves → text ≡ valid_line moves → IsAnswer Check input Done text
  valid_answers moves text judged text_is = subst (IsAnswer Check input Done) (sym text_is)
      (valid plan rest moves refl has (subst (λ (r : List ℕ). IsValidTrace plan r rest moves) due judged))

  invalid_answers : (line : ℕ) (text : List ℕ) → IsBadLine plan report rest line → text ≡ invalid_line line → IsAnswer Check input Invalid text
  invalid_answers line text judged text_is = subst (IsAnswer Check input Invalid) (sym text_is)
      (invalid plan rest line refl has (subst (λ (r : List ℕ). IsBadLine plan r rest line) due judged))

pub check-requires : goal.check-requires
check-requires g c =
    let it = report_lines c.args.plan.now in
    (it.0, subst (λ (text : List ℕ). AreLinesOf text it.0 []) (sym (c.deref.ensures.value ∙ c.in_ok-report.ensures)) it.1)

pub returns-in-Ok : goal.returns-in-Ok
returns-in-Ok g c =
    valid_answers c.args.input.now c.args.trace.now c.args.plan.now c.requires c.deref.result.now
    (c.deref.ensures.value ∙ c.in_ok-report.ensures) c.in-Ok.moves c.in_ok-text-in-Ok.text.items c.in-Ok.ensures.valid
    (c.in_ok-text-in-Ok.ensures ∙ ap valid_line c.in-Ok.moves-is)

pub returns-in-Err-Invalid : goal.returns-in-Err-Invalid
returns-in-Err-Invalid g c =
    let arm = c.in-Err-Invalid in
    invalid_answers c.args.input.now c.args.trace.now c.args.plan.now c.requires c.deref.result.now
    (c.deref.ensures.value ∙ c.in_ok-report.ensures) arm.line c.in_ok-text-in-Err-Invalid.text.items
    (subst (IsFaultOfTrace c.args.plan.now c.deref.result.now c.args.trace.now) arm.field-0-is arm.ensures.bad)
    (c.in_ok-text-in-Err-Invalid.ensures ∙ ap invalid_line arm.line-is)

-- Of `answer_of`: what it ensures.
use Rattle.std.proofs.Common.{◌≡◌, subst, sym, IfOk}
use Rattle.pm_base.specs.Outcomes.{Refuses}
use Rattle.pm_plan.specs.Refusals.{refusal_in}
use Rattle.pm_plan.specs.declared.refusal.PlanFault.{PlanFault}
use Rattle.pm_plan.specs.declared.refusal.Refusal.{Refusal}
use Rattle.pm_report.specs.Refusal.{refusal_line}
use Rattle.pm_scene.specs.Scene.{scene}
use Rattle.pm_answer.specs.Inputs.{IsRefusalOf, no_file, bad_file}
use Rattle.pm_answer.proofs.Answering.{refusal_answers}
use Rattle.pm_answer.proofs.answer.answer_of.Goals as goal

pub returns-in_default : goal.returns-in_default
returns-in_default g c =
    refusal_answers c.args.asked c.args.input.now c.at.result c.refused.result c.refused.ensures.status c.refused.ensures.text
    (subst (IsRefusalOf c.args.asked c.args.input.now) (sym c.at.ensures) (no_file c.in_default.ensures.none))

pub returns-in-Err-Refused : goal.returns-in-Err-Refused
returns-in-Err-Refused g c =
    let arm = c.in-Err-Refused in
    let input = c.args.input.now in
    let file = c.in-Some.envelope.file.now in
    let read = subst (λ (fault : PlanFault). Refuses (refusal_in fault) (scene file)) arm.field-0-is arm.ensures.scene in
    let told = subst (λ (refusal : Refusal). IfOk c.refused-in-Err-Refused.result (λ answer. answer.text.items ≡ refusal_line refusal))
    arm.refusal-is c.refused-in-Err-Refused.ensures.text in
    refusal_answers c.args.asked input arm.refusal c.refused-in-Err-Refused.result c.refused-in-Err-Refused.ensures.status told
    (bad_file file c.in-Some.envelope.rest.now arm.refusal c.in-Some.ensures.some read)

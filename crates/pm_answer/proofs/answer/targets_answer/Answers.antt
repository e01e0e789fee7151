-- Of `targets_answer`: what it ensures.
use Rattle.std.proofs.Common.{◌∙◌, ap, subst, sym, refl}
use Rattle.pm_plan.specs.Causes.{cause_code}
use Rattle.pm_plan.specs.declared.refusal.Cause.TheVariants.{BadTarget}
use Rattle.pm_plan.specs.declared.refusal.Place.TheVariants.{Line}
use Rattle.pm_ask.specs.TargetLists.{IsFaultOfText}
use Rattle.pm_answer.specs.Inputs.{IsRefusalOf, bad_target, refusal_at}
use Rattle.pm_answer.specs.Answers.{IsTextOf}
use Rattle.pm_answer.specs.declared.arguments.FileCommand.TheVariants.{Ask}
use Rattle.pm_answer.proofs.Answering.{refusal_answers, text_answers}
use Rattle.pm_answer.proofs.answer.targets_answer.Goals as goal

pub returns-in_ok-text-in-Ok : goal.returns-in_ok-text-in-Ok
returns-in_ok-text-in-Ok g c =
    let told = c.in_ok-text-in-Ok in
    text_answers Ask Ask c.args.input.now c.args.targets.now c.args.plan.now c.in-Ok.watts.items c.done.result.status c.done.result.text.items
    told.text.items refl c.requires c.in-Ok.ensures.read
    (subst (λ watts. IsTextOf Ask c.args.plan.now watts told.text.items) c.deref.ensures.value told.ensures)
    c.done.ensures.status c.done.ensures.text

pub returns-in-Err-Bad : goal.returns-in-Err-Bad
returns-in-Err-Bad g c =
    let arm = c.in-Err-Bad in
    let bad = subst (IsFaultOfText c.args.targets.now) arm.field-0-is arm.ensures.bad in
    refusal_answers Ask c.args.input.now c.at.result c.refused.result c.refused.ensures.status c.refused.ensures.text
    (subst (IsRefusalOf Ask c.args.input.now)
    (sym (c.at.ensures ∙ ap (λ line. refusal_at (cause_code BadTarget) (Line line)) arm.line-is))
    (bad_target c.args.plan.now c.args.targets.now arm.line refl c.requires bad))

-- Of `answers`: what the call of `ask_text` requires.
use Rattle.std.proofs.Common.{◌∙◌, ap, sym, length}
use Rattle.pm_plan.specs.Plans.{phases, end_cut}
use Rattle.pm_offer.proofs.Steps.{total_steps}
use Rattle.pm_answer.specs.Answers.{last_total}
use Rattle.pm_answer.proofs.texts.answers.Goals as goal

pub ask_text-requires-clause-steps : goal.ask_text-requires-clause-steps
unfolding last_total
ask_text-requires-clause-steps g c =
    let plan = c.args.plan.now in
    ap length c.in_ok-curve.ensures ∙ total_steps plan c.basis.ensures.sound (end_cut plan (phases plan))
    ∙ sym (ap (λ basis. basis.steps) c.basis.ensures.basis)

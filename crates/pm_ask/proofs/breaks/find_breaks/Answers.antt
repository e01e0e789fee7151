-- Of `find_breaks`: the turns of its loop over `step`.
use Rattle.std.proofs.Common.{ap, ◌∙◌, sym}
use Rattle.std.proofs.lemmas.List.{append-nil}
use Rattle.pm_ask.proofs.BreakLists.{breaks_after}
use Rattle.pm_ask.proofs.breaks.find_breaks.Goals as goal
use Rattle.pm_ask.proofs.breaks.find_breaks.Goals.{in-Some+in_ok-push, in_default}

pub loop-step-preserved : goal.loop-step-preserved
loop-step-preserved c =
    elim c.match-break_at.branch [
      | in-Some+in_ok-push w ↦
          breaks_after c.args.total.now c.loop-step.step _ _ _ w.in-Some.ensures c.loop-step.invariant
          (ap (λ breaks. breaks.items) w.breaks-is ∙ w.in_ok-push.ensures.items)
      | in_default w ↦
          breaks_after c.args.total.now c.loop-step.step _ _ _ w.in_default.ensures c.loop-step.invariant
          (ap (λ breaks. breaks.items) w.breaks-is ∙ sym (append-nil c.loop-step.breaks.items))
    ]

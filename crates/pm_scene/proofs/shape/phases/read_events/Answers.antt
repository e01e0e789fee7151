-- Of `read_events`: what it ensures; the turns of its loop over `value`.
use Rattle.std.proofs.Common.{arith}
use Rattle.serde_json.specs.View.{view}
use Rattle.pm_base.proofs.Outcomes.{Gives-err}
use Rattle.pm_plan.specs.declared.refusal.Place.TheVariants.{Event}
use Rattle.pm_plan.specs.Refusals.{refusal_in}
use Rattle.pm_plan.specs.Parts.{event_part}
use Rattle.pm_scene.specs.Phases.{event_shape, events_of}
use Rattle.pm_scene.proofs.Readers.{HaveRead-next, HaveRead-refuses, HaveRead-all}
use Rattle.pm_scene.proofs.shape.phases.read_events.Goals as goal

pub returns-in_err-read_event : goal.returns-in_err-read_event
unfolding events_of
returns-in_err-read_event c =
    Gives-err refusal_in _ _ _ _ c.from_residual.ensures.1
    (HaveRead-refuses (λ n. event_shape (Event c.args.phase n)) view event_part _ _ _ _ _ _ _ c.loop-value.invariant.read c.loop-value-test.true
    c.value-item.is (omega (arith, c.saturating_add-number.ensures)) c.in_err-read_event.ensures)

pub loop-value-preserved : goal.loop-value-preserved
loop-value-preserved c = record {
  number = omega (arith, c.saturating_add-number.ensures);
  read =
      HaveRead-next (λ n. event_shape (Event c.args.phase n)) view event_part _ _ _ _ _ _ _ _ c.loop-value.invariant.read c.loop-value-test.true
      c.value-item.is (omega (arith, c.saturating_add-number.ensures)) c.in_ok-read_event.ensures c.in_ok-push.ensures.items;
}

pub returns : goal.returns
unfolding events_of
returns c = HaveRead-all (λ n. event_shape (Event c.args.phase n)) view event_part _ _ _ c.loop-value.invariant.read c.loop-value-test.false

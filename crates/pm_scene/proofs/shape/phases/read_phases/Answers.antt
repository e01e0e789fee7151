-- Of `read_phases`: what it ensures; the turns of its loop over `value`.
use Rattle.std.proofs.Common.{arith}
use Rattle.serde_json.specs.View.{view}
use Rattle.pm_base.proofs.Outcomes.{Gives-err}
use Rattle.pm_plan.specs.Refusals.{refusal_in}
use Rattle.pm_plan.specs.Parts.{phase_part}
use Rattle.pm_scene.specs.Phases.{phase_shape, phases_of}
use Rattle.pm_scene.proofs.Readers.{HaveRead-next, HaveRead-refuses, HaveRead-all}
use Rattle.pm_scene.proofs.shape.phases.read_phases.Goals as goal

pub returns-in_err-read_phase : goal.returns-in_err-read_phase
unfolding phases_of
returns-in_err-read_phase c =
    Gives-err refusal_in _ _ _ _ c.from_residual.ensures.1
    (HaveRead-refuses phase_shape view phase_part _ _ _ _ _ _ _ c.loop-value.invariant.read c.loop-value-test.true
    c.value-item.is (omega (arith, c.saturating_add-number.ensures)) c.in_err-read_phase.ensures)

pub loop-value-preserved : goal.loop-value-preserved
loop-value-preserved c = record {
  number = omega (arith, c.saturating_add-number.ensures);
  read =
      HaveRead-next phase_shape view phase_part _ _ _ _ _ _ _ _ c.loop-value.invariant.read c.loop-value-test.true
      c.value-item.is (omega (arith, c.saturating_add-number.ensures)) c.in_ok-read_phase.ensures c.in_ok-push.ensures.items;
}

pub returns : goal.returns
unfolding phases_of
returns c = HaveRead-all phase_shape view phase_part _ _ _ c.loop-value.invariant.read c.loop-value-test.false

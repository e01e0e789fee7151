-- Of `add_phases`: what it ensures; the turns of its loop over `spec`.
use Rattle.std.proofs.Common.{◌∙◌, ◌+◌, arith}
use Rattle.pm_plan.specs.Building.{add_phase}
use Rattle.pm_plan.specs.Parts.{phase_part}
use Rattle.pm_plan.proofs.Folds.{made_more, makes_refused, made_all}
use Rattle.pm_plan.proofs.building.phases.add_phases.Goals as goal

pub returns-in_err-add_phase : goal.returns-in_err-add_phase
returns-in_err-add_phase c =
    makes_refused add_phase phase_part c.args.draft.now c.args.specs.now c.loop-spec.spec-index
    (c.loop-spec.number + 1) c.spec-item.result c.loop-spec.draft _ _ _
    (omega arith) (omega arith) c.spec-item.is c.loop-spec.invariant.made c.in_err-add_phase.ensures.made c.from_residual.ensures.1

pub loop-spec-preserved : goal.loop-spec-preserved
loop-spec-preserved c = record {
  number = omega arith;
  nodes = omega (arith, c.in_ok-add_phase.ensures.nodes);
  entries = c.in_ok-add_phase.ensures.entries ∙ c.loop-spec.invariant.entries;
  arrays = omega (arith, c.in_ok-add_phase.ensures.arrays);
  made =
      made_more add_phase phase_part c.args.draft.now c.args.specs.now c.loop-spec.spec-index (c.loop-spec.number + 1) c.spec-item.result c.loop-spec.draft _
      (omega arith) (omega arith) c.spec-item.is c.loop-spec.invariant.made c.in_ok-add_phase.ensures.made;
}

pub returns : goal.returns
returns c = made_all add_phase phase_part c.args.draft.now c.args.specs.now c.loop-spec.spec-index c.loop-spec.draft (omega arith) c.loop-spec.invariant.made

-- Of `change_count`: what it ensures; the turns of its loop over `phase`; that its numbers fit.
use Rattle.std.proofs.Common.{◌≡◌, ◌∙◌, ◌-◌, ◌+◌, sym, ap, ℕ, arith}
use Rattle.pm_plan.specs.Plans.{end_cut, phases}
use Rattle.pm_plan.proofs.Ends.{end-none, end-rises, end-within, end-last}
use Rattle.pm_plan.proofs.PlannedChanges.{few_changes}
use Rattle.pm_check.proofs.lists.change_count.Goals as goal

pub loop-phase-init : goal.loop-phase-init
loop-phase-init c = sym (end-none c.args.plan.now c.args.device.0 c.phases-phase-end.ensures.sound.in_phases)

pub overflow_add-count : goal.overflow_add-count
overflow_add-count c =
    let plan = c.args.plan.now in
    let d = c.args.device.0 in
    let p = c.loop-phase.phase in
    omega (
      arith,
      c.loop-phase.invariant,
      c.changes_of-count.ensures,
      end-rises plan (p - 1) p d (omega arith),
      end-within plan p d,
      few_changes plan d c.phases-phase-end.ensures.sound,
    )

pub loop-phase-preserved : goal.loop-phase-preserved
loop-phase-preserved c =
    let plan = c.args.plan.now in
    let d = c.args.device.0 in
    let p = c.loop-phase.phase in
    let same : p ≡ p + 1 - 1 = omega arith in
    let sum : c.loop-phase.count + c.changes_of-count.result ≡ end_cut plan p d =
    omega (arith, c.loop-phase.invariant, c.changes_of-count.ensures, end-rises plan (p - 1) p d (omega arith)) in
    sum ∙ ap (λ (q : ℕ). end_cut plan q d) same

pub returns : goal.returns
returns c =
    let all : c.loop-phase.phase - 1 ≡ phases c.args.plan.now = omega (arith, c.phases-phase-end.ensures.phases) in
    c.loop-phase.invariant ∙ ap (λ (q : ℕ). end_cut c.args.plan.now q c.args.device.0) all
    ∙ end-last c.args.plan.now c.args.device.0 c.phases-phase-end.ensures.sound.in_phases

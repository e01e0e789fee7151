-- Of `all_ends`: what it ensures; what the call of `add_end` requires; the turns of its loop over `phase`.
use Rattle.std.proofs.Common.{◌≡◌, ◌+◌, ◌-◌, ℕ, refl, subst, arith}
use Rattle.std.proofs.lemmas.Result.{IfOk-from_err}
use Rattle.pm_plan.specs.Plans.{phases}
use Rattle.pm_walk.specs.Runs.{IsAtEnd, AreEnds}
use Rattle.pm_walk.proofs.run.all_ends.Goals as goal

pub returns-in_err-run : goal.returns-in_err-run
returns-in_err-run c = IfOk-from_err c.from_residual.result _ c.from_residual.ensures.0

pub returns-in_err-add_end : goal.returns-in_err-add_end
returns-in_err-add_end c = IfOk-from_err c.from_residual-in_err-add_end.result _ c.from_residual-in_err-add_end.ensures.0

pub loop-phase-init : goal.loop-phase-init
loop-phase-init c = record { run = c.in_ok-run.ensures; ends = rw c.new-ends.ensures.items refl }

pub add_end-requires : goal.add_end-requires
add_end-requires c = record {
  first = c.loop-phase.auto.phase;
  last = omega (arith, c.phases-phase-end.ensures);
  before = c.loop-phase.invariant.run;
  ends = c.loop-phase.invariant.ends;
}

pub loop-phase-preserved : goal.loop-phase-preserved
loop-phase-preserved c =
    let plan = c.args.plan.now in
    let p = c.loop-phase.phase in
    let same : p ≡ p + 1 - 1 = omega arith in
    record {
      run = subst (λ (q : ℕ). IsAtEnd plan q c.add_end.new.self) same c.add_end.ensures.run;
      ends = subst (λ (q : ℕ). AreEnds plan q c.add_end.new.ends.items) same c.in_ok-add_end.ensures.ends;
    }

pub returns : goal.returns
returns c =
    let plan = c.args.plan.now in
    let all : c.loop-phase.phase - 1 ≡ phases plan = omega (arith, c.phases-phase-end.ensures, c.loop-phase.auto.phase-end (omega arith)) in
    subst (λ (p : ℕ). AreEnds plan p c.loop-phase.ends.items) all c.loop-phase.invariant.ends

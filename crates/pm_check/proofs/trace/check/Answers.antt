-- Of `check`: its clauses `valid`, `accepted` and `refused`.
use Rattle.std.proofs.Common.{◌≡◌, refl, ℕ, List, rules}
use Rattle.std.specs.Prelude.{Result, Ok, Err, IfOk, IfErr}
use Rattle.pm_plan.specs.Plans.{PlanData}
use Rattle.pm_plan.specs.Kept.{IsPlan}
use Rattle.pm_check.specs.declared.fault.CheckFault.{CheckFault}
use Rattle.pm_check.specs.declared.fault.CheckFault.TheVariants.{Invalid, NoMemory}
use Rattle.pm_check.specs.Traces.{IsValidTrace, IsBadLine, IsFaultOfTrace}
use Rattle.pm_check.proofs.Judgements.{not_both}
use Rattle.pm_check.proofs.trace.check.Goals as goal

module _ (plan : PlanData) (is : IsPlan plan) (report trace : List ℕ) where
  -- a valid trace is refused for want of memory alone
  not_refused : (result : Result ℕ CheckFault) → IfErr result (IsFaultOfTrace plan report trace) → (moves : ℕ) →
      IsValidTrace plan report trace moves →
      IfErr result (λ fault. fault ≡ NoMemory)
  not_refused (Ok n) fault moves valid = tt
  not_refused (Err NoMemory) fault moves valid = refl
  not_refused (Err (Invalid line)) fault moves valid = absurd (not_both plan is report trace moves line valid fault)

  -- one with a bad line is not taken
  not_taken : (result : Result ℕ CheckFault) → IfOk result (IsValidTrace plan report trace) → (line : ℕ) → IsBadLine plan report trace line →
      IfOk result (λ moves. ⊥)
  not_taken (Ok n) valid line bad = not_both plan is report trace n line valid bad
  not_taken (Err e) valid line bad = tt

pub returns-in-Ok-clause-valid : goal.returns-in-Ok-clause-valid
returns-in-Ok-clause-valid c = search rules

pub returns-in-Ok-clause-accepted : goal.returns-in-Ok-clause-accepted
returns-in-Ok-clause-accepted c =
    not_refused c.args.plan.now c.phases-phases.ensures.sound c.args.report.now c.args.trace.now c.check_moves.result c.check_moves.ensures.bad

pub returns-in-Ok-clause-refused : goal.returns-in-Ok-clause-refused
returns-in-Ok-clause-refused c =
    not_taken c.args.plan.now c.phases-phases.ensures.sound c.args.report.now c.args.trace.now c.check_moves.result c.check_moves.ensures.valid

pub returns-in-Err-clause-accepted : goal.returns-in-Err-clause-accepted
returns-in-Err-clause-accepted c =
    not_refused c.args.plan.now c.phases-phases.ensures.sound c.args.report.now c.args.trace.now (Err (Invalid c.in-Err.line))
    (c.in-Err.ensures.bad c.args.plan.now)

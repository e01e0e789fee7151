-- Of `make_phase`: what the call of `take_changes` requires.
use Rattle.std.proofs.Common.{sym, subst}
use Rattle.pm_plan.specs.Plans.{PlanData}
use Rattle.pm_free.specs.Counting.{AreTold}
use Rattle.pm_free.proofs.phase.make_phase.Goals as goal

pub take_changes-requires-clause-told : goal.take_changes-requires-clause-told
take_changes-requires-clause-told g c lifetimes outlive =
    subst (λ lists. AreTold c.plan.result.now lists) (sym c.deref.ensures.value)
    (subst (λ (p : PlanData). AreTold p c.in_ok-changes.changes.items) (sym c.plan.ensures.plan) c.in_ok-changes.ensures.told)

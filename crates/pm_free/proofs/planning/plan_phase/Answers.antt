-- Of `plan_phase`: its clause `told`; what the call of `make_changes` requires.
use Rattle.std.proofs.Common.{sym, subst}
use Rattle.pm_plan.specs.Plans.{PlanData}
use Rattle.pm_free.specs.Counting.{AreTold}
use Rattle.pm_free.proofs.planning.plan_phase.Goals as goal

pub make_changes-requires-clause-told : goal.make_changes-requires-clause-told
make_changes-requires-clause-told c =
    subst (λ (p : PlanData). AreTold p c.in_ok-changes.changes.items) c.plan.ensures.plan c.in_ok-changes.ensures.told

pub returns-clause-told : goal.returns-clause-told
returns-clause-told c =
    subst (λ (p : PlanData). AreTold p c.make_changes.new.changes.items) (sym c.end_phase.ensures.plan) c.in_ok-count.ensures.told

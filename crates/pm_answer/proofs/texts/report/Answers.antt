-- Of `report`: what the call of `report_text` requires.
use Rattle.std.proofs.Common.{List, subst, sym}
use Rattle.std.specs.Prelude.{All}
use Rattle.pm_plan.specs.Ends.{EndValue}
use Rattle.pm_report.specs.Report.{IsEndOf, ends_of}
use Rattle.pm_answer.proofs.texts.report.Goals as goal

pub report_text-requires-clause-of_plan : goal.report_text-requires-clause-of_plan
report_text-requires-clause-of_plan g c =
    subst (λ (ends : List EndValue). All (IsEndOf c.args.plan.now) (ends_of ends)) (sym c.deref.ensures.value) c.in_ok-_journal.ensures.of_plan

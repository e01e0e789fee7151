-- Of `trace`: what the call of `trace_text` requires.
use Rattle.std.proofs.Common.{List, subst, sym}
use Rattle.std.specs.Prelude.{All}
use Rattle.pm_plan.specs.Ends.{EndValue}
use Rattle.pm_report.specs.Report.{IsEndOf, ends_of}
use Rattle.pm_answer.proofs.texts.trace.Goals as goal

pub trace_text-requires-clause-of_plan : goal.trace_text-requires-clause-of_plan
trace_text-requires-clause-of_plan g c =
    subst (λ (ends : List EndValue). All (IsEndOf c.args.plan.now) (ends_of ends)) (sym c.deref.ensures.value) c.in_ok-journal.ensures.of_plan

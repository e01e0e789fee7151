-- Of `free_report`: what the calls of `prove` and `report_text` require.
use Rattle.std.proofs.Common.{◌≡◌, ◌∙◌, sym, ap, List, length, subst, arith}
use Rattle.std.specs.Prelude.{All}
use Rattle.std.proofs.lemmas.List.{length-map}
use Rattle.pm_plan.specs.Auction.{EndData}
use Rattle.pm_plan.specs.Ends.{EndValue}
use Rattle.pm_plan.specs.States.{all_ends}
use Rattle.pm_report.specs.Report.{IsEndOf, ends_of}
use Rattle.pm_answer.proofs.Ends.{ends-are, length-ends}
use Rattle.pm_answer.proofs.texts.free_report.Goals as goal

pub prove-unreachable-requires : goal.prove-unreachable-requires
prove-unreachable-requires g c =
    let ends = c.in_ok-ends.ends.items in
    let are : ends_of ends ≡ all_ends c.args.plan.now = c.in_ok-ends.ensures.ends in
    let many = sym (length-map ends (λ (e : EndValue). e.end)) ∙ ap (λ (l : List EndData). length l) are ∙ length-ends c.args.plan.now in
    c.if-prove.true (omega (arith, many, c.len.ensures, c.phases.ensures.phases, c.in_ok-ends.ends.ok.0))

pub report_text-requires-clause-of_plan : goal.report_text-requires-clause-of_plan
report_text-requires-clause-of_plan g c =
    let plan = c.args.plan.now in
    let are : ends_of c.in_ok-ends.ends.items ≡ all_ends plan = c.in_ok-ends.ensures.ends in
    subst (λ (ends : List EndValue). All (IsEndOf plan) (ends_of ends)) (sym c.deref.ensures.value)
    (subst (All (IsEndOf plan)) (sym are) (ends-are plan c.phases.ensures.sound))

-- Of `run`: its clauses `lines` and `of_plan`; what the call of `prove` requires.
use Rattle.std.proofs.Common.{◌≡◌, ◌∙◌, sym, ap, List, length, subst, arith}
use Rattle.std.specs.Prelude.{All}
use Rattle.std.proofs.lemmas.List.{length-map}
use Rattle.pm_plan.specs.Auction.{EndData}
use Rattle.pm_plan.specs.Ends.{EndValue}
use Rattle.pm_plan.specs.States.{all_ends}
use Rattle.pm_report.specs.Report.{IsEndOf, ends_of}
use Rattle.pm_answer.proofs.Ends.{ends-are, length-ends}
use Rattle.pm_answer.proofs.JournalLines.{journal_lines, of_plan}
use Rattle.pm_answer.proofs.Settled.{settled_ends, settled_journal}
use Rattle.pm_answer.proofs.texts.run.Goals as goal

pub prove-unreachable-requires : goal.prove-unreachable-requires
prove-unreachable-requires g c =
    let ends = c.into_parts-journal.result.1.items in
    let are : ends_of ends ≡ all_ends c.args.plan.now =
    settled_ends c.args.plan.now c.in_ok-board.board ends c.in_ok-board.ensures.plan c.in_ok-board.ensures.settled c.into_parts-journal.ensures.ends in
    let many = sym (length-map ends (λ (e : EndValue). e.end)) ∙ ap (λ (l : List EndData). length l) are ∙ length-ends c.args.plan.now in
    c.if-prove.true (omega (arith, many, c.len.ensures, c.phases.ensures.phases, c.into_parts-journal.result.1.ok.0))

pub returns-clause-lines : goal.returns-clause-lines
returns-clause-lines g c =
    let lines = c.into_parts-journal.result.0.lines in
    let journal = settled_journal c.args.plan.now c.in_ok-board.board lines c.in_ok-board.ensures.plan c.in_ok-board.ensures.settled
    c.into_parts-journal.ensures.lines in
    of_plan c.args.plan.now lines (journal_lines c.args.plan.now c.phases.ensures.sound lines journal.legal)

pub returns-clause-of_plan : goal.returns-clause-of_plan
returns-clause-of_plan g c =
    let ends = c.into_parts-journal.result.1.items in
    let are = settled_ends c.args.plan.now c.in_ok-board.board ends c.in_ok-board.ensures.plan c.in_ok-board.ensures.settled
    c.into_parts-journal.ensures.ends in
    subst (All (IsEndOf c.args.plan.now)) (sym are) (ends-are c.args.plan.now c.phases.ensures.sound)

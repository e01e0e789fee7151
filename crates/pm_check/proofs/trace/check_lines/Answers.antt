-- Of `check_lines`: its clauses `bad` and `valid`; what the call of `loop` requires; the turns of its loop over `line`; that its numbers fit.
use Rattle.std.proofs.Common.{◌∙◌, sym, ap, length, arith}
use Rattle.std.proofs.lemmas.Bool.{eqb-true, eqb-false}
use Rattle.std.proofs.lemmas.List.{nil_from_length}
use Rattle.pm_check.proofs.TextLines.{shorter}
use Rattle.pm_check.proofs.Judging.{judging_start, above_small, cut_short, not_a_move, not_the_count, not_the_end, is_valid, judging_next}
use Rattle.pm_check.proofs.trace.check_lines.Goals as goal

pub loop-line-init : goal.loop-line-init
loop-line-init c =
    judging_start c.args.plan.now c.args.report.now c.args.trace.now c.args.reported.lines c.args.judge.now c.args.reported.rest.now c.requires.reported
    c.requires.judge c.requires.start

pub overflow_add-at : goal.overflow_add-at
overflow_add-at c = omega (
  arith,
  above_small c.args.plan.now c.args.report.now c.args.trace.now c.args.reported.lines c.loop-line.judge
      c.loop-line.moves c.loop-line.rest.now c.loop-line.invariant,
)

pub overflow_add-at-in-Some : goal.overflow_add-at-in-Some
overflow_add-at-in-Some
    c = omega (
      arith,
      above_small c.args.plan.now c.args.report.now c.args.trace.now c.args.reported.lines c.loop-line.judge c.loop-line.moves
          c.loop-line.rest.now c.loop-line.invariant,
    )

pub overflow_add-result : goal.overflow_add-result
overflow_add-result c = omega (
  arith,
  above_small c.args.plan.now c.args.report.now c.args.trace.now c.args.reported.lines c.loop-line.judge
      c.loop-line.moves c.loop-line.rest.now c.loop-line.invariant,
)

pub overflow_add-moves : goal.overflow_add-moves
overflow_add-moves c = omega (
  arith,
  above_small c.args.plan.now c.args.report.now c.args.trace.now c.args.reported.lines c.loop-line.judge
      c.loop-line.moves c.loop-line.rest.now c.loop-line.invariant,
)

pub returns-then-not-branch-clause-bad : goal.returns-then-not-branch-clause-bad
returns-then-not-branch-clause-bad c =
    not_the_count c.args.plan.now c.args.report.now c.args.trace.now c.args.reported.lines c.loop-line.judge c.loop-line.moves c.loop-line.rest.now
    c.loop-line.invariant c.in-Some.line.now c.in-Some.more.now c.in-Some.ensures.whole c.in-Some.ensures.parts
    (c.is_complete.ensures.0 c.if-is_complete.true) (λ same. let is = c.in_ok-is_count.ensures.1 same in cc (is, c.if-not-branch.true))

pub returns-then-not-is_empty-clause-bad : goal.returns-then-not-is_empty-clause-bad
returns-then-not-is_empty-clause-bad c =
    let some = eqb-false (length c.in-Some.more.now) 0 (sym c.is_empty.ensures ∙ c.if-not-is_empty.true) in
    not_the_end c.args.plan.now c.args.report.now c.args.trace.now c.args.reported.lines c.loop-line.judge c.loop-line.moves c.loop-line.rest.now
    c.loop-line.invariant c.in-Some.line.now c.in-Some.more.now c.in-Some.ensures.whole c.in-Some.ensures.parts
    (c.is_complete.ensures.0 c.if-is_complete.true) (c.in_ok-is_count.ensures.0 c.if-not-branch.false) (λ none. some (ap (λ l. length l) none))

pub returns-then-is_complete-clause-valid : goal.returns-then-is_complete-clause-valid
returns-then-is_complete-clause-valid c =
    is_valid c.args.plan.now c.args.report.now c.args.trace.now c.args.reported.lines c.loop-line.judge c.loop-line.moves c.loop-line.rest.now
    c.loop-line.invariant c.in-Some.line.now c.in-Some.more.now c.in-Some.ensures.whole c.in-Some.ensures.parts
    (c.is_complete.ensures.0 c.if-is_complete.true) (c.in_ok-is_count.ensures.0 c.if-not-branch.false)
    (nil_from_length c.in-Some.more.now (eqb-true (length c.in-Some.more.now) 0 (sym c.is_empty.ensures ∙ c.if-not-is_empty.false)))

pub returns-then-not-branch-2-clause-bad : goal.returns-then-not-branch-2-clause-bad
returns-then-not-branch-2-clause-bad c =
    not_a_move c.args.plan.now c.args.report.now c.args.trace.now c.args.reported.lines c.loop-line.judge c.loop-line.moves c.loop-line.rest.now
    c.loop-line.invariant c.in-Some.line.now c.in-Some.more.now c.in-Some.ensures.whole c.in-Some.ensures.parts
    (λ closed. let is = c.is_complete.ensures.1 closed in cc (is, c.if-is_complete.false)) (c.in_ok-take.ensures.none c.if-not-branch-2.true)

pub loop-line-preserved : goal.loop-line-preserved
loop-line-preserved c =
    let taken = c.in_ok-take.ensures.taken c.if-not-branch-2.false in
    judging_next c.args.plan.now c.args.report.now c.args.trace.now c.args.reported.lines c.loop-line.judge c.loop-line.moves c.loop-line.rest.now
    c.loop-line.invariant c.in-Some.line.now c.in-Some.more.now c.in-Some.ensures.whole c.in-Some.ensures.parts c.take.new.self taken.0 taken.1

pub overflow_add-line : goal.overflow_add-line
overflow_add-line c = omega (
  arith,
  above_small c.args.plan.now c.args.report.now c.args.trace.now c.args.reported.lines c.loop-line.judge
      c.loop-line.moves c.loop-line.rest.now c.loop-line.invariant,
)

pub overflow_add-line-2 : goal.overflow_add-line-2
overflow_add-line-2 c = omega (
  arith,
  above_small c.args.plan.now c.args.report.now c.args.trace.now c.args.reported.lines c.loop-line.judge
      c.loop-line.moves c.loop-line.rest.now c.loop-line.invariant,
)

pub returns-clause-bad : goal.returns-clause-bad
returns-clause-bad c =
    cut_short c.args.plan.now c.args.report.now c.args.trace.now c.args.reported.lines c.loop-line.judge c.loop-line.moves c.loop-line.rest.now
    c.loop-line.invariant c.in_default.ensures.none

pub loop-line-smaller : goal.loop-line-smaller
loop-line-smaller c = shorter c.in-Some.line.now c.in-Some.more.now c.loop-line.rest.now c.in-Some.ensures.whole c.in-Some.ensures.parts

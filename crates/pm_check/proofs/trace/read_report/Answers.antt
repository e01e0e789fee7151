-- Of `read_report`: its clauses `bad` and `read`; what the call of `loop` requires; the turns of its loop over `expected`; that its numbers fit.
use Rattle.std.proofs.Common.{◌≡◌, ◌≢◌, ◌∙◌, sym, ap, ℕ, ◌+◌, ◌≤◌, true, false, List, [], ◌∷◌, ◌++◌, length}
use Rattle.std.proofs.Common.{append_assoc, arith}
use Rattle.std.specs.Prelude.{not}
use Rattle.std.specs.Str.{bytes_eq}
use Rattle.std.proofs.lemmas.Bool.{not-false}
use Rattle.std.proofs.lemmas.Slice.Eq.{bytes_eq-Decides}
use Rattle.std.proofs.lemmas.List.{length-append}
use Rattle.std.proofs.lemmas.List.Elements.{All-append, All-cons, All-nil}
use Rattle.pm_check.specs.Lines.{IsWholeLine, text_of_lines}
use Rattle.pm_check.proofs.TextLines.{text_of_lines-push, lines_within, shorter}
use Rattle.pm_check.proofs.Judgements.{IsMatched, report_cut, report_other, report_read}
use Rattle.pm_check.proofs.trace.read_report.Goals as goal

-- no more lines were read than the report has bytes
pub lines_matched : (report trace : List ℕ) (lines : ℕ) (done : List (List ℕ)) (due rest : List ℕ) → IsMatched report trace lines done due rest →
    lines ≤ length report
lines_matched report trace lines done due rest matched =
    omega (arith, matched.count, lines_within done matched.whole, ap (λ l. length l) matched.report_is, length-append (text_of_lines done) due)

-- one line more
pub next_matched : (report trace : List ℕ) (lines : ℕ) (done : List (List ℕ)) (due rest line later more : List ℕ) →
    IsMatched report trace lines done due rest → IsWholeLine line →
    due ≡ line ++ later → rest ≡ line ++ more → IsMatched report trace (lines + 1) (done ++ line ∷ []) later more
next_matched report trace lines done due rest line later more matched whole due_is rest_is = record {
  whole = All-append IsWholeLine done (line ∷ []) matched.whole (All-cons IsWholeLine line [] whole (All-nil IsWholeLine));
  count = omega (arith, matched.count, length-append done (line ∷ []));
  report_is = matched.report_is ∙ ap (λ t. text_of_lines done ++ t) due_is ∙ sym (append_assoc (text_of_lines done) line later)
      ∙ ap (λ t. t ++ later) (sym (text_of_lines-push done line));
  trace_is = matched.trace_is ∙ ap (λ t. text_of_lines done ++ t) rest_is ∙ sym (append_assoc (text_of_lines done) line more)
      ∙ ap (λ t. t ++ more) (sym (text_of_lines-push done line));
}

-- what the test for the same bytes says
same_by : (a b : List ℕ) → not (bytes_eq a b) ≡ false → a ≡ b
same_by a b e = (bytes_eq-Decides a b).0 (not-false (bytes_eq a b) e)

differ_by : (a b : List ℕ) → not (bytes_eq a b) ≡ true → a ≢ b
differ_by a b e same = let is = (bytes_eq-Decides a b).1 same in absurd (cc (ap not is, e))

pub overflow_add-result : goal.overflow_add-result
overflow_add-result c = let matched = c.loop-expected.invariant in
    omega (arith, lines_matched c.args.report.now c.args.trace.now c.loop-expected.lines matched.0 c.loop-expected.due.now c.loop-expected.rest.now matched.1)

pub overflow_add-result-then-ne : goal.overflow_add-result-then-ne
overflow_add-result-then-ne c = let matched = c.loop-expected.invariant in
    omega (arith, lines_matched c.args.report.now c.args.trace.now c.loop-expected.lines matched.0 c.loop-expected.due.now c.loop-expected.rest.now matched.1)

pub overflow_add-lines : goal.overflow_add-lines
overflow_add-lines c = let matched = c.loop-expected.invariant in
    omega (arith, lines_matched c.args.report.now c.args.trace.now c.loop-expected.lines matched.0 c.loop-expected.due.now c.loop-expected.rest.now matched.1)

pub returns-in_default-split_whole_line-clause-bad : goal.returns-in_default-split_whole_line-clause-bad
returns-in_default-split_whole_line-clause-bad c = λ plan.
    let matched = c.loop-expected.invariant in
    let report = c.requires in
    report_cut c.args.report.now c.args.trace.now c.loop-expected.lines matched.0 c.loop-expected.due.now c.loop-expected.rest.now matched.1 report.0
    report.1 plan
    c.in-Some.expected.now c.in-Some.later.now c.in-Some.ensures.whole c.in-Some.ensures.parts c.in_default-split_whole_line.ensures.none

pub returns-then-ne-clause-bad : goal.returns-then-ne-clause-bad
returns-then-ne-clause-bad c = λ plan.
    let matched = c.loop-expected.invariant in
    let report = c.requires in
    report_other c.args.report.now c.args.trace.now c.loop-expected.lines matched.0 c.loop-expected.due.now c.loop-expected.rest.now matched.1
    report.0 report.1 plan
    c.in-Some.expected.now c.in-Some.later.now c.in-Some-split_whole_line.found.now c.in-Some-split_whole_line.more.now
    c.in-Some.ensures.whole c.in-Some.ensures.parts c.in-Some-split_whole_line.ensures.whole c.in-Some-split_whole_line.ensures.parts
    (differ_by c.in-Some-split_whole_line.found.now c.in-Some.expected.now (sym c.ne.ensures ∙ c.if-ne.true))

pub loop-expected-preserved : goal.loop-expected-preserved
loop-expected-preserved c =
    let matched = c.loop-expected.invariant in (
      matched.0 ++ c.in-Some.expected.now ∷ [],
      next_matched c.args.report.now c.args.trace.now c.loop-expected.lines matched.0 c.loop-expected.due.now
          c.loop-expected.rest.now
          c.in-Some.expected.now c.in-Some.later.now c.in-Some-split_whole_line.more.now matched.1 c.in-Some.ensures.whole c.in-Some.ensures.parts
          (c.in-Some-split_whole_line.ensures.parts
          ∙ ap (λ l. l ++ c.in-Some-split_whole_line.more.now)
          (same_by c.in-Some-split_whole_line.found.now c.in-Some.expected.now (sym c.ne.ensures ∙ c.if-ne.false))),
    )

pub returns-clause-read : goal.returns-clause-read
returns-clause-read c =
    let matched = c.loop-expected.invariant in
    let report = c.requires in
    report_read c.args.report.now c.args.trace.now c.loop-expected.lines matched.0 c.loop-expected.due.now c.loop-expected.rest.now matched.1 report.0
    report.1 c.in_default.ensures.none

pub loop-expected-smaller : goal.loop-expected-smaller
loop-expected-smaller c = shorter c.in-Some.expected.now c.in-Some.later.now c.loop-expected.due.now c.in-Some.ensures.whole c.in-Some.ensures.parts

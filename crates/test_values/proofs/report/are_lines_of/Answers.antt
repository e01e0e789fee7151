-- Of `are_lines_of`: what it ensures; the turns of its loop over `line`.
use Rattle.std.proofs.Common.{subst, List, refl, take_all}
use Rattle.std.specs.Prelude.{All}
use Rattle.std.proofs.lemmas.List.Elements.{All-more}
use Rattle.pm_market.specs.declared.journal.Line.{Line}
use Rattle.pm_report.specs.Trace.{IsLineOf}
use Rattle.test_values.proofs.report.are_lines_of.Goals as goal

pub loop-line-preserved : goal.loop-line-preserved
loop-line-preserved c =
    All-more (IsLineOf c.args.plan.now) c.args.lines.now c.loop-line.line-index _ c.loop-line-test.true c.loop-line.invariant (c.if-not-is_line_of.ensures refl)

pub returns : goal.returns
returns c =
    λ all. subst (λ (lines : List Line). All (IsLineOf c.args.plan.now) lines)
    (take_all c.loop-line.line-index c.args.lines.now c.loop-line-test.false) c.loop-line.invariant

-- Of `are_lines_of`: what its loop over `line` keeps.
use Rattle.std.proofs.Common.{take}
use Rattle.std.specs.Prelude.{All}
use Rattle.pm_report.specs.Trace.{IsLineOf}
use Rattle.test_values.proofs.report.are_lines_of.Given as goal

abbrev pub invariant-loop-line : goal.invariant-loop-line
invariant-loop-line l = All (IsLineOf l.plan) (take l.line-index l.lines)

-- Of `check_lines`: what its loop over `line` keeps.
use Rattle.std.proofs.Common.{length}
use Rattle.pm_check.specs.Reading.{IsJudging}
use Rattle.pm_check.proofs.trace.check_lines.Given as goal

abbrev pub invariant-loop-line : goal.invariant-loop-line
invariant-loop-line l = IsJudging l.plan l.report l.trace l.reported.lines l.judge l.moves l.rest

abbrev pub decreases-loop-line : goal.decreases-loop-line
decreases-loop-line l = length l.rest

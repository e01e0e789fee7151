-- Of `read_report`: what its loop over `expected` keeps.
use Rattle.std.proofs.Common.{ℕ, List, length}
use Rattle.pm_check.proofs.Judgements.{IsMatched}
use Rattle.pm_check.proofs.trace.read_report.Given as goal

abbrev pub invariant-loop-expected : goal.invariant-loop-expected
invariant-loop-expected l = (done : List (List ℕ)) × IsMatched l.fn.report l.fn.trace l.lines done l.due l.rest

abbrev pub decreases-loop-expected : goal.decreases-loop-expected
decreases-loop-expected l = length l.due

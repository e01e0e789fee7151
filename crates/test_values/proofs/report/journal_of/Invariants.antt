-- Of `journal_of`: what its loop over `line` keeps.
use Rattle.std.proofs.Common.{◌≡◌, take}
use Rattle.test_values.proofs.report.journal_of.Given as goal

abbrev pub invariant-loop-line : goal.invariant-loop-line
invariant-loop-line g l = l.journal.lines ≡ take l.line-index l.lines

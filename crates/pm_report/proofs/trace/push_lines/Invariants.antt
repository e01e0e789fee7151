-- Of `push_lines`: what its loop over `at` keeps.
use Rattle.std.proofs.Common.{◌≡◌, ◌++◌, string_bytes, take}
use Rattle.std.specs.Prelude.{flat_map}
use Rattle.pm_report.specs.Trace.{move_line}
use Rattle.pm_report.proofs.trace.push_lines.Given as goal

abbrev pub invariant-loop-at : goal.invariant-loop-at
invariant-loop-at l = string_bytes l.text ≡ string_bytes l.initial.text ++ flat_map (move_line l.plan) (take l.at l.journal.lines)

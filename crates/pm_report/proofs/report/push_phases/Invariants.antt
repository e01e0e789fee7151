-- Of `push_phases`: what its loop over `before` keeps.
use Rattle.std.proofs.Common.{◌≡◌, ◌++◌, string_bytes, take}
use Rattle.pm_report.specs.Report.{phase_texts, ends_of}
use Rattle.pm_report.proofs.report.push_phases.Given as goal

abbrev pub invariant-loop-before : goal.invariant-loop-before
invariant-loop-before l = string_bytes l.text ≡ string_bytes l.initial.text ++ phase_texts l.plan 1 (ends_of (take l.before l.ends))

-- Of `push_all_limited`: what its loop over `limited` keeps.
use Rattle.std.proofs.Common.{◌≡◌, ◌++◌, string_bytes, take}
use Rattle.std.specs.Prelude.{flat_map}
use Rattle.pm_report.specs.Report.{limited_text}
use Rattle.pm_report.proofs.report.push_all_limited.Given as goal

abbrev pub invariant-loop-limited : goal.invariant-loop-limited
invariant-loop-limited l = string_bytes l.text ≡ string_bytes l.initial.text ++ flat_map (limited_text l.plan) (take l.limited-index l.all)

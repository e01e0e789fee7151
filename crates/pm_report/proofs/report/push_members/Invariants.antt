-- Of `push_members`: what its loop over `member` keeps.
use Rattle.std.proofs.Common.{◌≡◌, ◌++◌, string_bytes, take}
use Rattle.std.specs.Prelude.{flat_map}
use Rattle.pm_report.specs.Report.{member_text}
use Rattle.pm_report.proofs.report.push_members.Given as goal

abbrev pub invariant-loop-member : goal.invariant-loop-member
invariant-loop-member l = string_bytes l.text ≡ string_bytes l.initial.text ++ flat_map (member_text l.plan) (take l.member-index l.members)

-- Of `member_lines`: what its loop over `number` keeps.
use Rattle.std.proofs.Common.{◌≡◌, ◌-◌}
use Rattle.pm_walk.specs.Standing.{cut_made}
use Rattle.pm_plan.specs.EndLines.{members_to}
use Rattle.pm_walk.proofs.lines.member_lines.Given as goal

abbrev pub invariant-loop-number : goal.invariant-loop-number
invariant-loop-number l = l.lines.items ≡ members_to l.plan (cut_made l.standing.progress) (l.number - 1)

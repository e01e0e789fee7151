-- Of `limited_of`: what its loop over `number` keeps.
use Rattle.std.proofs.Common.{◌≡◌, ◌-◌}
use Rattle.pm_walk.specs.Standing.{cut_made}
use Rattle.pm_plan.specs.EndLines.{limited_to}
use Rattle.pm_walk.proofs.lines.limited_of.Given as goal

abbrev pub invariant-loop-number : goal.invariant-loop-number
invariant-loop-number l = l.lines.items ≡ limited_to l.plan (cut_made l.standing.progress) (l.number - 1)

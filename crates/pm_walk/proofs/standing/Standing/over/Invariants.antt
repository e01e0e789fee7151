-- Of `Standing::over`: what its loop over `number` keeps.
use Rattle.pm_walk.specs.Standing.{cut_made}
use Rattle.pm_walk.proofs.Standings.{IsAlong}
use Rattle.pm_walk.proofs.standing.Standing.over.Given as goal

abbrev pub invariant-loop-number : goal.invariant-loop-number
invariant-loop-number l = IsAlong l.plan l.number l.standing l.spare (cut_made l.progress) (λ _. 0)

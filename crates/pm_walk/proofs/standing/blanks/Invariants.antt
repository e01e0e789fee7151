-- Of `blanks`: what lasts from turn to turn.
use Rattle.std.proofs.Common.{◌≡◌, replicate}
use Rattle.pm_bid.specs.Bids.{zeros}
use Rattle.pm_walk.proofs.standing.blanks.Given as goal

abbrev pub invariant-loop : goal.invariant-loop
invariant-loop l = l.bids.items ≡ replicate l.counter (zeros l.steps)

-- Of `announce_each`: what its loop over `step` keeps.
use Rattle.std.proofs.Common.{◌≡◌, ◌+◌}
use Rattle.pm_bid.specs.Taken.{said_between}
use Rattle.pm_bid.proofs.EachStep.{Progress}
use Rattle.pm_bid.proofs.pointwise.announce_each.Given as goal

abbrev pub invariant-loop-step : goal.invariant-loop-step
invariant-loop-step g l = record {
  progress : Progress l.fn.targets (said_between l.first l.last l.demands) l.targets l.step;
  cost : l.counter ≡ l.fn.counter + l.step;
}

-- Of `add_each`: what its loop over `step` keeps.
use Rattle.std.proofs.Common.{◌≡◌, ◌+◌}
use Rattle.pm_bid.specs.Bids.{pairwise_sum}
use Rattle.pm_bid.proofs.EachStep.{Progress}
use Rattle.pm_bid.proofs.pointwise.add_each.Given as goal

abbrev pub invariant-loop-step : goal.invariant-loop-step
invariant-loop-step g l = record {
  progress : Progress l.fn.demands (pairwise_sum l.fn.demands l.others) l.demands l.step;
  cost : l.counter ≡ l.fn.counter + l.step;
}

-- Of `exchange_each`: what its loop over `step` keeps.
use Rattle.std.proofs.Common.{◌≡◌, ◌+◌, ◌*◌}
use Rattle.pm_bid.specs.Bids.{pairwise_sum, pairwise_difference}
use Rattle.pm_bid.proofs.EachStep.{Progress}
use Rattle.pm_bid.proofs.pointwise.exchange_each.Given as goal

abbrev pub invariant-loop-step : goal.invariant-loop-step
invariant-loop-step g l = record {
  progress : Progress l.fn.demands (pairwise_sum (pairwise_difference l.fn.demands l.olds) l.news) l.demands l.step;
  cost : l.counter ≡ l.fn.counter + 2 * l.step;
}

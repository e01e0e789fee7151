-- Of `BidCache::new`: what its loop over `child` keeps.
use Rattle.std.proofs.Common.{◌≡◌, ◌+◌, ◌*◌, replicate}
use Rattle.pm_bid.specs.Bids.{zeros}
use Rattle.pm_cache.proofs.cache.BidCache.new.Given as goal

abbrev pub invariant-loop-child : goal.invariant-loop-child
invariant-loop-child g l = record {
  demands : l.demands.items ≡ replicate l._child (zeros l.steps);
  cost : l.counter ≡ l.fn.counter + l._child * l.steps;
}

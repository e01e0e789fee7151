-- Of `BidCache::can_learn`: what its loop over `step` keeps.
use Rattle.std.proofs.Common.{ℕ, ◌+◌, ◌*◌, ◌<◌, ◌≤◌}
use Rattle.std.specs.Option.{option_copied}
use Rattle.pm_cache.specs.Learning.{IsWithinAt}
use Rattle.pm_cache.proofs.cache.BidCache.can_learn.Given as goal

abbrev pub invariant-loop-step : goal.invariant-loop-step
invariant-loop-step g l = record {
  within : (k : ℕ) → k < l.step → IsWithinAt l.self l.child (option_copied l.demand) k;
  cost : l.counter ≤ l.fn.counter + 3 * l.step;
  passes : l.fn.counter + 2 * l.step ≤ l.counter;
  rises : l.fn.counter ≤ l.counter;
}

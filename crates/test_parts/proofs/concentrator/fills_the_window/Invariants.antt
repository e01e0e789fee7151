-- Of `fills_the_window`: what its loop over `number` keeps.
use Rattle.std.proofs.Common.{◌≡◌, ◌+◌, length}
use Rattle.pm_cache.specs.Learning.{HasSingleBids}
use Rattle.test_parts.proofs.concentrator.fills_the_window.Given as goal

abbrev pub invariant-loop-number : goal.invariant-loop-number
invariant-loop-number g l = record {
  last : l.c.window.last + 1 ≡ l.number;
  offered : l.up.up.offered ≡ l.c.window.last;
  up_steps : l.up.steps ≡ 10;
  child : length l.c.cache.heads ≡ 1;
  steps : l.c.cache.steps ≡ 10;
  single : HasSingleBids l.c.cache;
  limits : l.c.limits ≡ l.initial.c.limits;
}

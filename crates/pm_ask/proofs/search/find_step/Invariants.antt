-- Of `find_step`: what its loop over `low` keeps.
use Rattle.std.proofs.Common.{◌-◌, ◌≤◌, length}
use Rattle.pm_ask.proofs.Halving.{IsBetween, LooksLeft, LooksDue}
use Rattle.pm_ask.proofs.search.find_step.Given as goal

abbrev pub invariant-loop-low : goal.invariant-loop-low
invariant-loop-low g l = record {
  between : IsBetween l.total l.fn.target l.low l.high;
  looks : LooksLeft (length l.total) l.fn.counter l.counter (l.high - l.low);
  due : LooksDue (length l.total) l.fn.counter l.counter (l.high - l.low);
  rises : l.fn.counter ≤ l.counter;
}

abbrev pub decreases-loop-low : goal.decreases-loop-low
decreases-loop-low g l = l.high - l.low

-- Of `counts_after`: what its loop over `node` keeps.
use Rattle.std.proofs.Common.{◌≡◌, length}
use Rattle.pm_free.proofs.Counted.{CountedTo}
use Rattle.pm_free.proofs.counting.counts_after.Given as goal

abbrev pub invariant-loop-node : goal.invariant-loop-node
invariant-loop-node l = (length l.counts.items ≡ l.node) × CountedTo l.plan l.phase l.made l.changes l.node l.counts.items

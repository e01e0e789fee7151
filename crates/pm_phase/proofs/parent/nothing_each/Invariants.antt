-- Of `nothing_each`: what its loop over `child` keeps.
use Rattle.std.proofs.Common.{◌≡◌, replicate, None}
use Rattle.pm_phase.proofs.parent.nothing_each.Given as goal

abbrev pub invariant-loop-child : goal.invariant-loop-child
invariant-loop-child g l = l.each.items ≡ replicate l._child None

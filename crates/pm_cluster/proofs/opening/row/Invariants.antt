-- Of `row`: what its loop over `child` keeps.
use Rattle.std.proofs.Common.{◌≡◌, replicate}
use Rattle.pm_session.specs.Links.{new_session}
use Rattle.pm_cluster.proofs.opening.row.Given as goal

abbrev pub invariant-loop-child : goal.invariant-loop-child
invariant-loop-child l = l.links.items ≡ replicate l._child (new_session l.steps)

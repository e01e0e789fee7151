-- Of `ports`: what its loop over `node` keeps.
use Rattle.std.proofs.Common.{◌≡◌, replicate, None}
use Rattle.pm_cluster.proofs.opening.ports.Given as goal

abbrev pub invariant-loop-node : goal.invariant-loop-node
invariant-loop-node l = l.ports.items ≡ replicate l._node (record { joined = None; given = None })

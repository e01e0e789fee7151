-- Of `keep_powers`: what its loop over `number` keeps.
use Rattle.pm_cluster.specs.Ends.{power_by_entry}
use Rattle.pm_cluster.proofs.ClosesLegally.{AreFoundTo}
use Rattle.pm_cluster.proofs.ends.keep_powers.Given as goal

abbrev pub invariant-loop-number : goal.invariant-loop-number
invariant-loop-number l = AreFoundTo l.plan (power_by_entry l.plan l.auctioneer l.concentrators.items l.ports.items) l.number l.fn.powers.items l.powers.items

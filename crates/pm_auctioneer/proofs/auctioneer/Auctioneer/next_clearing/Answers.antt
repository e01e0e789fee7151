-- Of `Auctioneer::next_clearing`: its clauses `refused` and `cleared`.
use Rattle.std.proofs.Common.{rules}
use Rattle.pm_auctioneer.proofs.auctioneer.Auctioneer.next_clearing.Goals as goal

pub returns-then-not-self-clause-refused : goal.returns-then-not-self-clause-refused
returns-then-not-self-clause-refused c = search rules

pub returns-clause-cleared : goal.returns-clause-cleared
returns-clause-cleared c = search rules

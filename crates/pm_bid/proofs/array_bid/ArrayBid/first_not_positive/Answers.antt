-- Of `ArrayBid::first_not_positive`: its clauses `step` and `clears`.
use Rattle.std.proofs.Common.{rules}
use Rattle.pm_bid.proofs.array_bid.ArrayBid.first_not_positive.Goals as goal

pub returns-clause-step : goal.returns-clause-step
returns-clause-step g c = search rules

pub returns-clause-clears : goal.returns-clause-clears
returns-clause-clears g c = search rules

-- Of `ArrayBid::step_within`: its clause `step`.
use Rattle.std.proofs.Common.{rules}
use Rattle.pm_bid.proofs.array_bid.ArrayBid.step_within.Goals as goal

pub returns-then-demand-limits-clause-step : goal.returns-then-demand-limits-clause-step
returns-then-demand-limits-clause-step g c = search rules

-- Of `relays_settle_within_limits`: its clauses.
use Rattle.pm_bid.proofs.Taken.{settled_inside, settled_rises, settled_kept, settled_above, settled_below, settled_within, settled_ceiling}
use Rattle.pm_bid.proofs.laws.relays_settle_within_limits.Goals as goal

pub returns-clause-inside : goal.returns-clause-inside
returns-clause-inside c = settled_inside

pub returns-clause-rises : goal.returns-clause-rises
returns-clause-rises c = settled_rises

pub returns-clause-kept : goal.returns-clause-kept
returns-clause-kept c = settled_kept

pub returns-clause-above : goal.returns-clause-above
returns-clause-above c = settled_above

pub returns-clause-below : goal.returns-clause-below
returns-clause-below c = settled_below

pub returns-clause-within : goal.returns-clause-within
returns-clause-within c = settled_within

pub returns-clause-ceiling : goal.returns-clause-ceiling
returns-clause-ceiling c = settled_ceiling

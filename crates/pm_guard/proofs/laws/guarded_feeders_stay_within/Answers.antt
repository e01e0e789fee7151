-- Of `guarded_feeders_stay_within`: what it ensures.
use Rattle.pm_guard.proofs.Kept.{knows_new, knows_all_after, flow_between_at}
use Rattle.pm_guard.proofs.Further.{flow_no_further, flow_within, flow_steady}
use Rattle.pm_guard.proofs.Relays.{may_fall_back}
use Rattle.pm_guard.proofs.laws.guarded_feeders_stay_within.Goals as goal

pub returns-clause-known : goal.returns-clause-known
returns-clause-known c depth feeder events new = knows_all_after depth events feeder (knows_new depth feeder new)

pub returns-clause-goes_on : goal.returns-clause-goes_on
returns-clause-goes_on c depth feeder events knows = knows_all_after depth events feeder knows

pub returns-clause-bounds : goal.returns-clause-bounds
returns-clause-bounds c depth feeder path knows = flow_between_at depth path feeder knows

pub returns-clause-never_further : goal.returns-clause-never_further
returns-clause-never_further c depth feeder path events knows on = flow_no_further depth feeder path events knows on

pub returns-clause-within : goal.returns-clause-within
returns-clause-within c depth feeder path events knows on inside = flow_within depth feeder path events knows on inside

pub returns-clause-steady : goal.returns-clause-steady
returns-clause-steady c depth feeder path events knows on none inside = flow_steady depth feeder path events knows on none inside

pub returns-clause-fallback : goal.returns-clause-fallback
returns-clause-fallback c told promised fallback there same counts = may_fall_back told promised fallback there same counts

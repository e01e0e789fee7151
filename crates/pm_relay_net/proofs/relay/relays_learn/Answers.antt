-- Of `relays_learn`: its clauses.
use Rattle.pm_relay_net.proofs.Learning.{learns, learns_limits}
use Rattle.pm_relay_net.proofs.relay.relays_learn.Goals as goal

pub returns-clause-limits : goal.returns-clause-limits
returns-clause-limits c = learns_limits

pub returns-clause-bids : goal.returns-clause-bids
returns-clause-bids c = learns

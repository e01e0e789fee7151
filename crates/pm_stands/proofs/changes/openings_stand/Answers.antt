-- Of `openings_stand`: what it ensures.
use Rattle.pm_stands.proofs.Starting.{opened_stands}
use Rattle.pm_stands.proofs.changes.openings_stand.Goals as goal

pub returns : goal.returns
returns c = opened_stands

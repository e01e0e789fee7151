-- Of `settled_parts_end_plainly`: the law.
use Rattle.pm_phase.proofs.HeldEnd.{ends_plainly}
use Rattle.pm_phase.proofs.laws.settled_parts_end_plainly.Goals as goal

pub returns : goal.returns
returns c = ends_plainly

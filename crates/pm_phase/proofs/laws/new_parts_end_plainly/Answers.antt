-- Of `new_parts_end_plainly`: the law.
use Rattle.pm_phase.proofs.NewEnd.{new_ends_plainly}
use Rattle.pm_phase.proofs.laws.new_parts_end_plainly.Goals as goal

pub returns : goal.returns
returns c = new_ends_plainly

-- Of `same_changes`: what it ensures.
use Rattle.std.proofs.lemmas.Slice.Eq.{slice_eq-Decides}
use Rattle.pm_plan.proofs.Equals.{same_change}
use Rattle.pm_plan.proofs.same.same_changes.Goals as goal

pub returns : goal.returns
returns c = slice_eq-Decides same_change _ _ _ c.eq.ensures

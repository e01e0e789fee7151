-- Of `same_minutes`: what it ensures.
use Rattle.std.proofs.lemmas.Slice.Eq.{slice_eq-Decides}
use Rattle.pm_plan.proofs.Equals.{same_minutes}
use Rattle.pm_plan.proofs.same.same_minutes.Goals as goal

pub returns : goal.returns
returns c = slice_eq-Decides same_minutes _ _ _ c.eq.ensures

-- Of `breaks_are_unique`: what it ensures.
use Rattle.pm_ask.proofs.OneCurve.{one_list_of_breaks}
use Rattle.pm_ask.proofs.curve.breaks_are_unique.Goals as goal

pub returns : goal.returns
returns c = one_list_of_breaks

-- Of `find_breaks`: what its loop over `step` keeps.
use Rattle.std.proofs.Common.{◌≡◌}
use Rattle.pm_ask.proofs.BreakLists.{breaks_before}
use Rattle.pm_ask.proofs.breaks.find_breaks.Given as goal

abbrev pub invariant-loop-step : goal.invariant-loop-step
invariant-loop-step l = l.breaks.items ≡ breaks_before l.total l.step

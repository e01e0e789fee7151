-- Of `total_of`: what its loop over `step` keeps.
use Rattle.std.proofs.Common.{◌≡◌, length}
use Rattle.test_values.proofs.ask.total_of.Given as goal

abbrev pub invariant-loop-step : goal.invariant-loop-step
invariant-loop-step g l = length l.total ≡ length l.demands

-- Of `smallest`: what its loop keeps.
use Rattle.std.proofs.Common.{◌≡◌, take}
use Rattle.pm_guard.specs.Bands.{least_power}
use Rattle.pm_guard.proofs.child.smallest.Given as goal

abbrev pub invariant-loop-band : goal.invariant-loop-band
invariant-loop-band l = l.least ≡ least_power (take l.band-index l.held)

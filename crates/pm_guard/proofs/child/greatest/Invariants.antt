-- Of `greatest`: what its loop keeps.
use Rattle.std.proofs.Common.{◌≡◌, take}
use Rattle.pm_guard.specs.Bands.{greatest_power}
use Rattle.pm_guard.proofs.child.greatest.Given as goal

abbrev pub invariant-loop-band : goal.invariant-loop-band
invariant-loop-band l = l.most ≡ greatest_power (take l.band-index l.held)

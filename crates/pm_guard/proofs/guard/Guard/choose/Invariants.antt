-- Of `choose`: what its loop keeps.
use Rattle.std.proofs.Common.{◌≡◌, ℕ, ◌<◌, false}
use Rattle.pm_guard.specs.Guards.{may_choose}
use Rattle.pm_guard.proofs.guard.Guard.choose.Given as goal

abbrev pub invariant-loop-child : goal.invariant-loop-child
invariant-loop-child l = (child : ℕ) → child < l.child → may_choose l.self l.targets child ≡ false

-- Of `follow`: what its loop over `place` keeps.
use Rattle.std.proofs.Common.{◌≡◌, ℕ, ◌+◌, ◌<◌, Some}
use Rattle.std.specs.Prelude.{slice_get}
use Rattle.pm_device.specs.declared.state.Next.{Next}
use Rattle.pm_free.proofs.counting.follow.Given as goal

abbrev pub invariant-loop-place : goal.invariant-loop-place
invariant-loop-place l = (k : ℕ) (next : Next) → k < l.place → slice_get l.list k ≡ Some next → next.number ≡ l.made + k + 1

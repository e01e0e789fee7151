-- Of `have_none`: what its loop over `node` keeps.
use Rattle.std.proofs.Common.{◌≡◌, ℕ, ◌<◌}
use Rattle.std.specs.Prelude.{slice_get}
use Rattle.pm_phase.specs.SettledParts.{changes_count}
use Rattle.pm_free.proofs.counting.have_none.Given as goal

abbrev pub invariant-loop-node : goal.invariant-loop-node
invariant-loop-node l = (d : ℕ) → d < l.node → changes_count (slice_get l.changes d) ≡ 0

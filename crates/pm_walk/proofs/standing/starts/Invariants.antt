-- Of `starts`: what its loop over `number` keeps.
use Rattle.std.proofs.Common.{◌≡◌, ◌<◌, ℕ, length}
use Rattle.pm_walk.specs.Standing.{progress_at, HasCome, cut_made}
use Rattle.pm_walk.proofs.standing.starts.Given as goal

abbrev pub invariant-loop-number : goal.invariant-loop-number
invariant-loop-number l = record {
  many : length l.progress.items ≡ l.number;
  reached : (x : ℕ) → x < l.number → HasCome l.plan x (progress_at l.progress.items x);
  none : (x : ℕ) → cut_made l.progress.items x ≡ 0;
}

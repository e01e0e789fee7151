-- Of `Window::opened`: what its loop over `place` keeps.
use Rattle.std.proofs.Common.{◌≡◌, ℕ, ◌<◌, length, get_or, replicate}
use Rattle.pm_bid.specs.Heads.{nothing_sent}
use Rattle.pm_session.specs.Windows.{steps_of, no_record}
use Rattle.pm_session.proofs.window.Window.opened.Given as goal

abbrev pub invariant-loop-place : goal.invariant-loop-place
invariant-loop-place l = record {
  count : length l.places.items ≡ l._place;
  heads : (k : ℕ) → k < l._place → (get_or l.places.items k no_record).heads ≡ replicate l.children nothing_sent;
  sums : (k : ℕ) → k < l._place → steps_of (get_or l.places.items k no_record).sum ≡ l.steps;
}

-- those before have been looked at, and the others are as they were
use Rattle.std.proofs.Common.{◌≡◌, ℕ, ◌<◌, ◌≤◌, length, slice_index_or}
use Rattle.pm_silence.specs.Placing.{empty, place_looked_at}
use Rattle.pm_silence.proofs.places.ChildPlaces.tick.Given as goal

abbrev pub invariant-loop-child : goal.invariant-loop-child
invariant-loop-child l = record {
  many : length l.self.places.items ≡ length l.fn.self.places.items;
  before : (k : ℕ) → k < l.child → slice_index_or l.self.places.items k (empty 0) ≡ place_looked_at
      (slice_index_or l.fn.self.places.items k (empty 0)) l.grace l.now;
  behind : (k : ℕ) → l.child ≤ k → slice_index_or l.self.places.items k (empty 0) ≡ slice_index_or l.fn.self.places.items k (empty 0);
}

-- Of `Prices::offer`: what its loop over `child` keeps.
use Rattle.std.proofs.Common.{◌≡◌, ℕ, ◌<◌, ◌≤◌, true, false, length}
use Rattle.pm_session.specs.Links.{PriceOffered}
use Rattle.pm_session.specs.Prices.{session_at, head_at}
use Rattle.pm_session.proofs.prices.Prices.offer.Given as goal

abbrev pub invariant-loop-child : goal.invariant-loop-child
invariant-loop-child l = record {
  same_length : length l.downs ≡ length l.initial.downs;
  offered : (k : ℕ) → k < l.child → (head_at l.self.heads.now k).gone ≡ false →
      PriceOffered (session_at l.initial.downs k) (session_at l.downs k)
      (record { step = l.self.step; number = (head_at l.self.heads.now k).number; index = l.self.index });
  others : (k : ℕ) → k < l.child → (head_at l.self.heads.now k).gone ≡ true → session_at l.downs k ≡ session_at l.initial.downs k;
  ahead : (k : ℕ) → l.child ≤ k → session_at l.downs k ≡ session_at l.initial.downs k;
}

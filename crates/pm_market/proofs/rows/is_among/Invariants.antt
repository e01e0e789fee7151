-- Of `is_among`: what its loop over `back` keeps.
use Rattle.std.proofs.Common.{◌≡◌, ◌≤◌, ◌<◌, ◌-◌, ℕ, get_or, length}
use Rattle.pm_market.proofs.rows.is_among.Given as goal

abbrev pub invariant-loop-back : goal.invariant-loop-back
invariant-loop-back l = (k : ℕ) → l.len - l.back ≤ k → k < length l.list → get_or l.list k 0 ≡ l.item → ⊥

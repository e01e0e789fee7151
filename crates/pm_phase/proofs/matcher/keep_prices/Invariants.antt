-- Of `keep_prices`: what its loop over `child` keeps.
use Rattle.std.proofs.Common.{◌≡◌, ℕ, ◌<◌, ◌≤◌, length}
use Rattle.pm_session.specs.Prices.{price_to}
use Rattle.pm_phase.specs.Matchers.{waiting_at, newer_price}
use Rattle.pm_phase.proofs.matcher.keep_prices.Given as goal

abbrev pub invariant-loop-child : goal.invariant-loop-child
invariant-loop-child l =
    let before = l.fn.waiting.items in
    (length l.waiting.items ≡ length before)
    × ((k : ℕ) → k < l.child → k < length before → waiting_at l.waiting.items k
    ≡ newer_price (price_to l.prices.heads.now l.prices.step l.prices.index k) (waiting_at before k))
    × ((k : ℕ) → l.child ≤ k → waiting_at l.waiting.items k ≡ waiting_at before k)

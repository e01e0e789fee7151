-- Of `new_links`: what its loop over `link` keeps.
use Rattle.std.proofs.Common.{◌≡◌, ℕ, ◌<◌, length}
use Rattle.pm_session.specs.Prices.{session_at}
use Rattle.test_parts.proofs.concentrator.new_links.Given as goal

abbrev pub invariant-loop-link : goal.invariant-loop-link
invariant-loop-link g l = record {
  count : length l.links.items ≡ l._link;
  new : (child : ℕ) → child < l._link → (session_at l.links.items child).down.offered ≡ 0;
}

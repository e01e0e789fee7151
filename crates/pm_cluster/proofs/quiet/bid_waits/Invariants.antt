-- Of `bid_waits`: what its loop over `link` keeps.
use Rattle.std.proofs.Common.{◌≡◌, ℕ, ◌<◌}
use Rattle.pm_session.specs.Prices.{session_at}
use Rattle.pm_cluster.proofs.quiet.bid_waits.Given as goal

abbrev pub invariant-loop-link : goal.invariant-loop-link
invariant-loop-link l = (k : ℕ) → k < l.link-index → (session_at l.row k).up.offered ≡ (session_at l.row k).up.taken

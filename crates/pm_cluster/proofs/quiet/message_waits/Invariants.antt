-- Of `message_waits`: what its loop over `link` keeps.
use Rattle.std.proofs.Common.{ℕ, ◌<◌}
use Rattle.pm_session.specs.Prices.{session_at}
use Rattle.pm_session.specs.Links.{IsTaken}
use Rattle.pm_cluster.proofs.quiet.message_waits.Given as goal

abbrev pub invariant-loop-link : goal.invariant-loop-link
invariant-loop-link l = (k : ℕ) → k < l.link-index → IsTaken (session_at l.row k)

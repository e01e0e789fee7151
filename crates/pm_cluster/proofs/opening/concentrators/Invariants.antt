-- Of `concentrators`: what its loop over `number` keeps.
use Rattle.std.proofs.Common.{◌≡◌, ℕ, ◌<◌, length, get_or, None}
use Rattle.pm_cluster.specs.Opening.{IsNewAt}
use Rattle.pm_cluster.proofs.opening.concentrators.Given as goal

abbrev pub invariant-loop-number : goal.invariant-loop-number
invariant-loop-number l =
    (length l.concentrators.items ≡ l.number)
    × ((y : ℕ) → y < l.number → IsNewAt l.plan y (get_or l.concentrators.items y None))

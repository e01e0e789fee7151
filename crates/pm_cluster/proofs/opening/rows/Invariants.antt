-- Of `rows`: what its loop over `number` keeps.
use Rattle.std.proofs.Common.{◌≡◌, ℕ, ◌<◌, length, replicate}
use Rattle.pm_base.specs.Rows.{rows_of}
use Rattle.pm_tree.specs.Entries.{children_of}
use Rattle.pm_session.specs.Links.{new_session}
use Rattle.pm_stands.specs.Core.{row_at}
use Rattle.pm_cluster.proofs.opening.rows.Given as goal

abbrev pub invariant-loop-number : goal.invariant-loop-number
invariant-loop-number l =
    (length l.rows.items ≡ l.number)
    × ((y : ℕ) → y < l.number → row_at (rows_of l.rows.items) y
    ≡ replicate (length (children_of l.plan.entries y)) (new_session l.plan.basis.steps))

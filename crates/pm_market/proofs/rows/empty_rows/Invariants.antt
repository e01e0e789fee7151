-- Of `empty_rows`: what its loop over `row` keeps.
use Rattle.std.proofs.Common.{◌≡◌, replicate, []}
use Rattle.pm_base.specs.Rows.{rows_of}
use Rattle.pm_market.proofs.rows.empty_rows.Given as goal

abbrev pub invariant-loop-row : goal.invariant-loop-row
invariant-loop-row g l = rows_of l.table.items ≡ replicate l._row []

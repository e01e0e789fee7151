-- Of `ends_of`: what its loop over `at` keeps.
use Rattle.std.proofs.Common.{◌≡◌, map}
use Rattle.std.specs.List.{range_with_len}
use Rattle.pm_base.specs.Rows.{rows_of}
use Rattle.pm_plan.specs.Plans.{end_cut, node_numbers}
use Rattle.pm_check.proofs.lists.ends_of.Given as goal

abbrev pub invariant-loop-at : goal.invariant-loop-at
invariant-loop-at l = record {
  before : l.before.items ≡ map (end_cut l.plan l.at) (node_numbers l.plan);
  rows : rows_of l.rows.items ≡ map (λ p. map (end_cut l.plan p) (node_numbers l.plan)) (range_with_len 1 l.at);
}

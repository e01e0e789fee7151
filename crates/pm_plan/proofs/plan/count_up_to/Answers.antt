-- Of `count_up_to`: what it ensures.
use Rattle.std.proofs.Common.{sym, rules, arith}
use Rattle.std.proofs.lemmas.List.Sums.{prefix_len_is}
use Rattle.std.proofs.lemmas.List.Sorted.{IsPartitionPoint-from_clause, IsPartitionedBy-leb, IsNonDecreasingBy-from_default}
use Rattle.pm_plan.specs.declared.planned.Change.{Change}
use Rattle.pm_plan.specs.Plans.{is_up_to}
use Rattle.pm_plan.specs.Kept.{no_change}
use Rattle.pm_plan.proofs.plan.count_up_to.Goals as goal

pub returns : goal.returns
returns c =
    let changes = c.args.changes.now in
    let rises = IsNonDecreasingBy-from_default (λ (x : Change). x.phase) changes no_change c.requires.rise in
    let parted = IsPartitionedBy-leb (λ (x : Change). x.phase) changes c.args.phase rises in
    let point = IsPartitionPoint-from_clause (is_up_to c.args.phase) changes _ c.partition_point.ensures.partitioned parted (λ a r q k. search rules) in
    sym (prefix_len_is (is_up_to c.args.phase) changes c.partition_point.result no_change c.partition_point.ensures.bound
    (λ k below. point.0 k no_change (omega arith) below) (λ inside. point.1 c.partition_point.result no_change (omega arith) inside))

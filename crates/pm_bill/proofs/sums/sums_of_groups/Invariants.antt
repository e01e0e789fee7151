-- Of `sums_of_groups`: what its loop over `group` keeps.
use Rattle.std.proofs.Common.{◌≡◌, ◌*◌, take}
use Rattle.pm_base.specs.Limits.{IsWithin, price_limit, sum_limit}
use Rattle.pm_bill.specs.Shares.{sum_each, group_cost}
use Rattle.pm_bill.proofs.sums.sums_of_groups.Given as goal

abbrev pub invariant-loop-group : goal.invariant-loop-group
invariant-loop-group l = record {
  cost : l.cost ≡ sum_each group_cost (take l.group-index l.groups);
  power : l.power ≡ sum_each (λ group. group.power) (take l.group-index l.groups);
  cost_within : IsWithin (l.group-index * (price_limit * sum_limit)) l.cost;
  power_within : IsWithin (l.group-index * sum_limit) l.power;
}

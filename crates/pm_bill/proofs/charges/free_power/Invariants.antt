-- Of `free_power`: what its loop over `member` keeps.
use Rattle.std.proofs.Common.{◌≡◌, ◌*◌, take}
use Rattle.std.specs.Prelude.{◌==◌, filter}
use Rattle.pm_base.specs.Limits.{IsWithin, demand_limit}
use Rattle.pm_plan.specs.Plans.{group}
use Rattle.pm_bill.specs.Shares.{sum_each}
use Rattle.pm_bill.proofs.charges.free_power.Given as goal

abbrev pub invariant-loop-member : goal.invariant-loop-member
invariant-loop-member l = record {
  power : l.power ≡ sum_each (λ member. member.power) (filter (λ member. group l.plan member.node == 0) (take l.member-index l.member-items));
  within : IsWithin (l.member-index * demand_limit) l.power;
}

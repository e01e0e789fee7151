-- Of `fill_total`: what its loop over `number` keeps.
use Rattle.std.proofs.Common.{◌≡◌, ◌-◌, length}
use Rattle.pm_plan.specs.States.{state}
use Rattle.pm_walk.specs.Standing.{cut_made}
use Rattle.pm_walk.specs.Parts.{total_to}
use Rattle.pm_walk.proofs.totals.fill_total.Given as goal

abbrev pub invariant-loop-number : goal.invariant-loop-number
invariant-loop-number l = record {
  total : l.out ≡ total_to l.plan (state l.plan) (cut_made l.standing.progress) (l.number - 1);
  spare : length l.spare ≡ l.plan.basis.steps;
}

-- Of `fill_group_steps`: what its loop over `group` keeps.
use Rattle.std.proofs.Common.{◌≡◌, ◌<◌, ℕ, get_or}
use Rattle.pm_plan.specs.Auction.{plain_step, local_step_of_group}
use Rattle.pm_plan.specs.States.{state}
use Rattle.pm_walk.specs.Standing.{cut_made}
use Rattle.pm_walk.proofs.clearing.fill_group_steps.Given as goal

abbrev pub invariant-loop-group : goal.invariant-loop-group
invariant-loop-group l = record {
  inside : (g : ℕ) → g < l.group → get_or l.group_steps g 0 < l.plan.basis.steps;
  same : (g : ℕ) → g < l.group → get_or l.group_steps g 0 ≡ local_step_of_group l.plan (state l.plan) (cut_made l.standing.progress)
      (plain_step l.plan (state l.plan) (cut_made l.standing.progress)) g;
}

-- The plain auction of a cut, as far as it is kept.
use Rattle.std.specs.Prelude.{◌≡◌, ℕ, ◌+◌, ◌<◌, ◌≤◌, ℤ, pos, List, length, slice_index_or}
use Rattle.pm_plan.specs.Plans.{PlanData}
use Rattle.pm_plan.specs.Auction.{total, plain_step, local_step_of_group, power}
use Rattle.pm_base.specs.Cuts.{Cut}
use Rattle.pm_base.specs.Limits.{most_steps}
use Rattle.pm_plan.specs.States.{state}
use Rattle.pm_walk.specs.declared.clearing.Clearing.{Clearing}

-- the step of each group
pub record AreGroupSteps (plan : PlanData) (cut : Cut) (steps : List ℕ) : Type 0 where
  pub one_each : length steps ≡ length plan.nodes + 1
  pub inside : (g : ℕ) → g ≤ length plan.nodes → slice_index_or steps g 0 < plan.basis.steps
  pub same : (g : ℕ) → g ≤ length plan.nodes → slice_index_or steps g 0 ≡ local_step_of_group plan (state plan) cut
      (plain_step plan (state plan) cut) g

-- the power of each node; a node that is no member has none
pub record ArePowers (plan : PlanData) (cut : Cut) (powers : List ℤ) : Type 0 where
  pub one_each : length powers ≡ length plan.nodes + 1
  pub same : (x : ℕ) → x ≤ length plan.nodes → slice_index_or powers x (pos 0) ≡ power plan (state plan) cut x

-- room for the auction of a plan
pub record HasRoom (plan : PlanData) (clearing : Clearing) : Type 0 where
  pub total : length clearing.total ≡ plan.basis.steps
  pub group_steps : length clearing.group_steps.items ≡ length plan.nodes + 1
  pub powers : length clearing.powers.items ≡ length plan.nodes + 1

-- the total, its step, the step of each group and the power of each node are those of the plain auction of the cut
pub record IsClearing (plan : PlanData) (cut : Cut) (clearing : Clearing) : Type 0 where
  pub total : clearing.total ≡ total plan (state plan) cut
  pub long : length clearing.total ≡ plan.basis.steps
  pub step : clearing.step ≡ plain_step plan (state plan) cut
  pub inside : clearing.step < plan.basis.steps
  pub small : clearing.step < most_steps
  pub group_steps : AreGroupSteps plan cut clearing.group_steps.items
  pub powers : ArePowers plan cut clearing.powers.items

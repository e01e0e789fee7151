-- The step by which a node goes, said without computing it: the clearing step, or if limits ask for another one the
-- nearest step at which the group's sum keeps them.
use Rattle.std.specs.Prelude.{ℕ, ◌≤◌, ℤ, ◌<ℤ◌, List, Option, Some, None}
use Rattle.pm_base.specs.Cuts.{Cut}
use Rattle.pm_base.specs.declared.limits.Limits.{Limits}
use Rattle.pm_bid.specs.Bids.{demand_at}
use Rattle.pm_bid.specs.Clearing.{IsFirstAtMost, IsLastAtLeast, Clears}
use Rattle.pm_plan.specs.Plans.{PlanData, node, limits_of, group}
use Rattle.pm_plan.specs.Auction.{sum_in, total}
use Rattle.pm_plan.specs.States.{state}
use Rattle.pm_offer.specs.Powers.{KeepsLimits}

-- the step of a group with this sum, if the whole cluster clears at step k
pub data IsLocalStep (sum : List ℤ) (k : ℕ) : Option Limits → ℕ → Type 0 where
  -- a group without limits goes by the clearing step
  unlimited : IsLocalStep sum k None k
  -- so does one whose sum keeps its limits there
  kept : (limits : Limits) → KeepsLimits limits (demand_at sum k) → IsLocalStep sum k (Some limits) k
  -- if the sum is above the ceiling: the first step, from k on, at which it is at most the ceiling; the last one if there is none
  above : (limits : Limits) (step : ℕ) → limits.ceiling <ℤ demand_at sum k → k ≤ step → IsFirstAtMost limits.ceiling sum step →
      IsLocalStep sum k (Some limits) step
  -- if it is below the floor: the last step, up to k, at which it is at least the floor; step 0 if there is none
  below : (limits : Limits) (step : ℕ) → demand_at sum k <ℤ limits.floor → step ≤ k → IsLastAtLeast limits.floor sum step →
      IsLocalStep sum k (Some limits) step

-- the step of a node is that of its group, if the whole cluster clears at step k over a cut
abbrev pub GoesBy : PlanData → Cut → ℕ → ℕ → ℕ → Type 0
GoesBy plan cut k x step = IsLocalStep (sum_in plan (state plan) cut (group plan x)) k (limits_of (node plan (group plan x))) step

-- the step of a node in the plain auction over a cut
abbrev pub IsAuctionStep : PlanData → Cut → ℕ → ℕ → Type 0
IsAuctionStep plan cut x step = (k : ℕ) × Clears (total plan (state plan) cut) k × GoesBy plan cut k x step

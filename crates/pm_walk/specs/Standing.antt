-- How far a run has come: each node's changes made with the state and the membership after them, each node's demand,
-- and each group's sum.
use Rattle.std.specs.Prelude.{◌≡◌, ℕ, ◌+◌, ◌≤◌, ℤ, pos, true, false, if◌then◌else◌, List, [], length, slice_index_or}
use Rattle.pm_bid.specs.Bids.{zeros}
use Rattle.pm_plan.specs.Plans.{PlanData, node, is_leaf, is_member, change_count}
use Rattle.pm_plan.specs.Kept.{IsPlan}
use Rattle.pm_plan.specs.Auction.{node_bid, sum_in, demand_in_cut}
use Rattle.pm_base.specs.Cuts.{Cut}
use Rattle.pm_plan.specs.States.{state}
use Rattle.pm_walk.specs.declared.changes.Progress.{Progress}

-- a node of the plan has come so far; only a device has a state
pub record HasCome (plan : PlanData) (x : ℕ) (progress : Progress) : Type 0 where
  pub within : progress.count ≤ change_count plan x
  pub state : is_leaf plan x ≡ true → progress.state.0 ≡ state plan x progress.count
  pub member : progress.member ≡ is_member plan x progress.count

-- the demand of a device that has come so far
abbrev pub demand_come : PlanData → ℕ → Progress → List ℤ
demand_come plan d progress =
    if progress.member then node_bid plan (node plan d) progress.state.0 else zeros plan.basis.steps

-- place 0 of each list is the auctioneer's: the sum of group 0 is that of the devices below no limited concentrator
pub record StandingValue : Type 0 where
  pub progress : List Progress
  pub demands : List (List ℤ)
  pub sums : List (List ℤ)

abbrev pub no_progress : Progress
no_progress = record { count = 0; state = record { 0 = pos 0 }; member = false }

-- how far a node has come
abbrev pub progress_at : List Progress → ℕ → Progress
progress_at progress x = slice_index_or progress x no_progress

-- the cut of the changes made
abbrev pub cut_made : List Progress → Cut
cut_made progress x = (progress_at progress x).count

-- each node of the plan has come as far as the list says
pub record HaveCome (plan : PlanData) (progress : List Progress) : Type 0 where
  pub one_each : length progress ≡ length plan.nodes + 1
  pub reached : (x : ℕ) → x ≤ length plan.nodes → HasCome plan x (progress_at progress x)

-- all that is kept is that of the plan in the cut of the changes made
pub record IsStanding (plan : PlanData) (standing : StandingValue) : Type 0 where
  pub sound : IsPlan plan
  pub progress : HaveCome plan standing.progress
  pub demand_each : length standing.demands ≡ length plan.nodes + 1
  pub sum_each : length standing.sums ≡ length plan.nodes + 1
  pub demands : (x : ℕ) → x ≤ length plan.nodes → slice_index_or standing.demands x [] ≡ demand_in_cut plan (state plan)
      (cut_made standing.progress) x
  pub sums : (g : ℕ) → g ≤ length plan.nodes → slice_index_or standing.sums g [] ≡ sum_in plan (state plan) (cut_made standing.progress) g

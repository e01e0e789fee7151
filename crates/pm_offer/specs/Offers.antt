-- What a node of the tree offers to its parent over a cut, in watts at each step: its bid, as the plain auction gives it.
-- The states of the devices are the plan's own.
use Rattle.std.specs.Prelude.{ℕ, ℤ, Bool, ◌&&◌, not, if◌then◌else◌, List, map}
use Rattle.pm_base.specs.Cuts.{Cut}
use Rattle.pm_bid.specs.Bids.{pairwise_sum, zeros, sum_of}
use Rattle.pm_tree.specs.Entries.{children_of}
use Rattle.pm_market.specs.Lists.{is_below, is_leaf_of}
use Rattle.pm_plan.specs.Plans.{PlanData, is_limited, group, node_numbers}
use Rattle.pm_plan.specs.Auction.{demand_in_cut, announcement, local_step_in}
use Rattle.pm_plan.specs.States.{state}
use Rattle.pm_plan.specs.Market.{plan_lists}

-- the demand of a device after its first n changes; zeros if it is no member then
abbrev pub device_demand : PlanData → ℕ → ℕ → List ℤ
device_demand plan d n = demand_in_cut plan (state plan) (λ node. n) d

-- whether g is a limited concentrator that is x or stands below x
abbrev pub is_limited_at : PlanData → ℕ → ℕ → Bool
is_limited_at plan x g = is_limited plan g && is_below (plan_lists plan) x g

-- what a device adds itself: its demand, if it is a leaf of x and no limited concentrator that is x or stands below x
-- stands above it; else zeros
unfoldable pub own_part : PlanData → ℕ → Cut → ℕ → List ℤ
own_part plan x cut d =
    if is_leaf_of (plan_lists plan) x d && not (is_limited_at plan x (group plan d)) then device_demand plan d (cut d)
    else zeros plan.basis.steps

-- what a limited concentrator adds that is x or stands below x: what it announces
unfoldable pub limited_part : PlanData → ℕ → Cut → ℕ → List ℤ
limited_part plan x cut g =
    if is_limited_at plan x g then announcement plan (state plan) cut g
    else zeros plan.basis.steps

-- the offer of x: what the devices add themselves, and what the limited concentrators add
unfoldable pub offer : PlanData → ℕ → Cut → List ℤ
offer plan x cut =
    pairwise_sum (sum_of plan.basis.steps (map (own_part plan x cut) (node_numbers plan)))
    (sum_of plan.basis.steps (map (limited_part plan x cut) (node_numbers plan)))

-- the offers of the children of y in file order, and their sum, which no limits have changed
abbrev pub offers_of : PlanData → ℕ → Cut → List (List ℤ)
offers_of plan y cut = map (λ x. offer plan x cut) (children_of plan.entries y)

abbrev pub children_sum : PlanData → ℕ → Cut → List ℤ
children_sum plan y cut = sum_of plan.basis.steps (offers_of plan y cut)

-- the local step of a node
abbrev pub local_step_at : PlanData → Cut → ℕ → ℕ
local_step_at plan cut x = local_step_in plan (state plan) cut x

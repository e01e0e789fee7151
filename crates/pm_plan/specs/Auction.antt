-- The plain auction over a cut, for any states of the devices after their changes.
use Rattle.std.specs.Prelude.{ℕ, ◌==◌, ℤ, if◌then◌else◌, List, ◌∷◌, map, filter}
use Rattle.pm_base.specs.Cuts.{Cut}
use Rattle.pm_basis.specs.Prices.{price_at}
use Rattle.pm_bid.specs.Bids.{demand_at, zeros, sum_of}
use Rattle.pm_bid.specs.Clearing.{clearing_step}
use Rattle.pm_bid.specs.Limited.{within_limits, local_step}
use Rattle.pm_strategy.specs.Strategies.{bid_of}
use Rattle.pm_plan.specs.declared.node.Node.TheVariants.{Device}
use Rattle.pm_plan.specs.declared.end.MemberLine.{MemberLine}
use Rattle.pm_plan.specs.declared.end.LimitedLine.{LimitedLine}
use Rattle.pm_plan.specs.Plans.{PlanData, NodeData, node, limits_of, is_member, is_limited, group, node_numbers}

-- the state of each device after so many of its changes
abbrev pub States : Type 0
States = ℕ → ℕ → ℤ

-- the bid of a node in a state: of a device that of its kind, and of any other node zeros
abbrev pub node_bid : PlanData → NodeData → ℤ → List ℤ
node_bid plan (Device planned) state = bid_of planned.kind state plan.arrays plan.basis.steps
node_bid plan _ state = zeros plan.basis.steps

-- the demand of a device in a cut: its bid if it is a member, else zeros
unfoldable pub demand_in_cut : PlanData → States → Cut → ℕ → List ℤ
demand_in_cut plan states cut d =
    if is_member plan d (cut d) then node_bid plan (node plan d) (states d (cut d)) else zeros plan.basis.steps

-- what a device adds to a group: its demand if it belongs to the group
unfoldable pub part_in : PlanData → States → Cut → ℕ → ℕ → List ℤ
part_in plan states cut g d = if group plan d == g then demand_in_cut plan states cut d else zeros plan.basis.steps

-- the sum of a group: of the devices below the limited concentrator g, and of those below none if g is 0
unfoldable pub sum_in : PlanData → States → Cut → ℕ → List ℤ
sum_in plan states cut g = sum_of plan.basis.steps (map (part_in plan states cut g) (node_numbers plan))

-- the limited concentrators in file order
abbrev pub limited_nodes : PlanData → List ℕ
limited_nodes plan = filter (is_limited plan) (node_numbers plan)

-- what a limited concentrator announces: the sum of its group, within its limits
unfoldable pub announcement : PlanData → States → Cut → ℕ → List ℤ
announcement plan states cut g = within_limits (limits_of (node plan g)) (sum_in plan states cut g)

-- the total: the sum of the devices below no limited concentrator, and what each limited concentrator announces
unfoldable pub total : PlanData → States → Cut → List ℤ
total plan states cut = sum_of plan.basis.steps (sum_in plan states cut 0 ∷ map (announcement plan states cut) (limited_nodes plan))

-- the step of the plain auction: the first at which the total is not positive, and the last if it always is
unfoldable pub plain_step : PlanData → States → Cut → ℕ
plain_step plan states cut = clearing_step (total plan states cut)

-- the step of a group, if k is the step of the whole
unfoldable pub local_step_of_group : PlanData → States → Cut → ℕ → ℕ → ℕ
local_step_of_group plan states cut k g = local_step (limits_of (node plan g)) k (sum_in plan states cut g)

-- the step of a node: that of its group
unfoldable pub local_step_in : PlanData → States → Cut → ℕ → ℕ
local_step_in plan states cut x = local_step_of_group plan states cut (plain_step plan states cut) (group plan x)

-- the power of a device in watts: its demand at the step of its group, so 0 if it is no member
unfoldable pub power : PlanData → States → Cut → ℕ → ℤ
power plan states cut d = demand_at (demand_in_cut plan states cut d) (local_step_in plan states cut d)

-- a phase's end: the step, its price and the total there; a line for each member and for each limited concentrator,
-- both in file order
pub record EndData : Type 0 where
  pub step : ℕ
  pub price : ℤ
  pub total : ℤ
  pub members : List MemberLine
  pub limited : List LimitedLine

-- a member, its power, and the number of its changes
unfoldable pub member_line : PlanData → States → Cut → ℕ → MemberLine
member_line plan states cut d = record { node = d; power = power plan states cut d; number = cut d }

-- a limited concentrator, the step of the nodes below it, and the sum of its group there
unfoldable pub limited_line : PlanData → States → Cut → ℕ → LimitedLine
limited_line plan states cut g =
    let k = local_step_of_group plan states cut (plain_step plan states cut) g in
    record { node = g; step = k; total = demand_at (sum_in plan states cut g) k }

unfoldable pub end_in : PlanData → States → Cut → EndData
end_in plan states cut = let k = plain_step plan states cut in
    record {
      step = k;
      price = price_at plan.basis k;
      total = demand_at (total plan states cut) k;
      members = map (member_line plan states cut) (filter (λ d. is_member plan d (cut d)) (node_numbers plan));
      limited = map (limited_line plan states cut) (limited_nodes plan);
    }

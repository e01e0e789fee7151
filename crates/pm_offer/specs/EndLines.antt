-- What the lines of an end tell, in the words of the market: the plain auction over a cut, line by line.
use Rattle.std.specs.Prelude.{◌≡◌, ℕ, ◌<◌, ◌==◌, ℤ, ◌+ℤ◌, true, List, map, filter, Some, All}
use Rattle.pm_base.specs.Cuts.{Cut}
use Rattle.pm_base.specs.declared.limits.Limits.{Limits}
use Rattle.pm_basis.specs.Prices.{price_at}
use Rattle.pm_bid.specs.Bids.{demand_at}
use Rattle.pm_bid.specs.Clearing.{Clears}
use Rattle.pm_strategy.specs.Strategies.{bid_of}
use Rattle.pm_plan.specs.Devices.{DeviceData}
use Rattle.pm_plan.specs.declared.node.Node.TheVariants.{Device}
use Rattle.pm_plan.specs.declared.end.MemberLine.{MemberLine}
use Rattle.pm_plan.specs.declared.end.LimitedLine.{LimitedLine}
use Rattle.pm_plan.specs.Plans.{PlanData, node, limits_of, is_member, group, node_numbers}
use Rattle.pm_plan.specs.Auction.{EndData, sum_in, limited_nodes, total}
use Rattle.pm_plan.specs.States.{state}
use Rattle.pm_offer.specs.LocalSteps.{IsLocalStep, GoesBy}
use Rattle.pm_offer.specs.Powers.{total_watts, announced_power, KeepsLimits}

-- the line of a member, if the cluster clears at step k: its node is a device that is a member, its number is that of the
-- device's last change, and its power is what the bid of that number, of the device's kind in its state then, demands at
-- the step that the device goes by
pub record TellsMember (plan : PlanData) (cut : Cut) (k : ℕ) (line : MemberLine) : Type 0 where
  pub device : DeviceData
  pub planned : node plan line.node ≡ Device device
  pub member : is_member plan line.node (cut line.node) ≡ true
  pub number : line.number ≡ cut line.node
  pub step : ℕ
  pub goes_by : GoesBy plan cut k line.node step
  pub power : line.power ≡ demand_at (bid_of device.kind (state plan line.node line.number) plan.arrays plan.basis.steps) step

-- the powers that the lines of a group's devices tell, added up
abbrev pub told_power : PlanData → List MemberLine → ℕ → ℤ
told_power plan members g = total_watts (map (λ line. line.power) (filter (λ line. group plan line.node == g) members))

-- the line of a limited concentrator: the step of its group, and what the lines of the group's devices add up to
pub record TellsLimited (plan : PlanData) (cut : Cut) (k : ℕ) (members : List MemberLine) (line : LimitedLine) : Type 0 where
  pub limits : Limits
  pub limited : limits_of (node plan line.node) ≡ Some limits
  pub step : IsLocalStep (sum_in plan (state plan) cut line.node) k (Some limits) line.step
  pub sum : line.total ≡ told_power plan members line.node

-- the lines of an end tell the plain auction over a cut
pub record TellsEnd (plan : PlanData) (cut : Cut) (end : EndData) : Type 0 where
  -- the step is the first at which the total is not positive, and the price is that of the step
  pub clears : Clears (total plan (state plan) cut) end.step
  pub price : end.price ≡ price_at plan.basis end.step
  pub total : end.total ≡ demand_at (total plan (state plan) cut) end.step
  -- there is one line for each member, and one for each limited concentrator, both in file order
  pub members_all : map (λ line. line.node) end.members ≡ filter (λ d. is_member plan d (cut d)) (node_numbers plan)
  pub members : All (TellsMember plan cut end.step) end.members
  pub limited_all : map (λ line. line.node) end.limited ≡ limited_nodes plan
  pub limited : All (TellsLimited plan cut end.step end.members) end.limited
  -- the powers told of no limited group, and what the limited concentrators announce, add up to the total told
  pub balance : end.total ≡ told_power plan end.members 0 +ℤ announced_power plan cut end.step
  -- the powers told of a limited group keep its limits together, if the group's sum keeps them at some step of the basis
  pub within : (g : ℕ) (limits : Limits) (step : ℕ) → limits_of (node plan g) ≡ Some limits → step < plan.basis.steps →
      KeepsLimits limits (demand_at (sum_in plan (state plan) cut g) step) → KeepsLimits limits (told_power plan end.members g)

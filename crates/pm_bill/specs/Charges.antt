-- What is charged in a tick: the shares and the sums of groups that a phase's end gives.
use Rattle.std.specs.Prelude.{◌≡◌, ℕ, ◌<◌, ◌≤◌, ◌==◌, ℤ, if◌then◌else◌, List, ◌∷◌, length, map, filter, find, All}
use Rattle.std.specs.Option.{option_map_or}
use Rattle.pm_base.specs.Cuts.{Cut}
use Rattle.pm_base.specs.Limits.{IsWithin, demand_limit, most_nodes}
use Rattle.pm_basis.specs.Prices.{price_at}
use Rattle.pm_tree.specs.Entries.{leaves_of}
use Rattle.pm_plan.specs.declared.end.MemberLine.{MemberLine}
use Rattle.pm_plan.specs.declared.end.LimitedLine.{LimitedLine}
use Rattle.pm_plan.specs.Plans.{PlanData, is_leaf, group}
use Rattle.pm_plan.specs.Auction.{EndData}
use Rattle.pm_bill.specs.declared.share.Share.{Share}
use Rattle.pm_bill.specs.declared.share.GroupSum.{GroupSum}
use Rattle.pm_bill.specs.Accounts.{no_account}
use Rattle.pm_bill.specs.Shares.{sum_each, group_cost, shares_of, account_of_share, account_of_shares, AreShares, AreGroups, ComeToTheSame}
use Rattle.pm_bill.specs.Runs.{device_share, device_shares, group_sums}

-- the price of a group at an end: that of the step in its line, and the price of the end if it has no line
abbrev pub price_in_end : PlanData → EndData → ℕ → ℤ
price_in_end plan end g =
    option_map_or (λ line. price_at plan.basis line.step) (find (λ line. line.node == g) end.limited) end.price

-- the share of each member at an end
abbrev pub member_share : PlanData → EndData → MemberLine → Share
member_share plan end member =
    record { node = member.node; price = price_in_end plan end (group plan member.node); power = member.power }

-- the shares of all members, in the order of the end
abbrev pub member_shares : PlanData → EndData → List Share
member_shares plan end = map (member_share plan end) end.members

-- the power of the members below no limited concentrator
abbrev pub free_power : PlanData → EndData → ℤ
free_power plan end = sum_each (λ member. member.power) (filter (λ member. group plan member.node == 0) end.members)

-- what the group of a line comes to
abbrev pub limited_group : PlanData → LimitedLine → GroupSum
limited_group plan line = record { price = price_at plan.basis line.step; power = line.total }

-- what each group comes to at an end: the members below no limited concentrator, and each limited concentrator
abbrev pub end_groups : PlanData → EndData → List GroupSum
end_groups plan end = record { price = end.price; power = free_power plan end } ∷ map (limited_group plan) end.limited

-- the nodes and the steps of an end are those of the plan, and its members are no more, and have no more power, than
-- devices may
pub record MayBeCharged (plan : PlanData) (end : EndData) : Type 0 where
  pub nodes : All (λ member. member.node ≤ length plan.nodes) end.members
  pub steps : All (λ line. line.step < plan.basis.steps) end.limited
  pub powers : All (λ member. IsWithin demand_limit member.power) end.members
  pub few : length end.members ≤ most_nodes

-- these shares and sums of groups charge all devices and the grid as the plain auction of a cut does: each device and no
-- other node has its share, and they come to the same as all shares and all groups
pub record AreCharges (plan : PlanData) (cut : Cut) (shares : List Share) (groups : List GroupSum) : Type 0 where
  pub are_shares : AreShares (leaves_of plan.entries) shares
  pub are_groups : AreGroups groups
  pub same : ComeToTheSame shares groups
  pub own : (minutes : ℤ) (x : ℕ) → account_of_shares minutes (shares_of x shares)
      ≡ (if is_leaf plan x then account_of_share minutes (device_share plan cut x) else no_account)
  pub power : sum_each (λ share. share.power) shares ≡ sum_each (λ share. share.power) (device_shares plan cut)
  pub cost : sum_each group_cost groups ≡ sum_each group_cost (group_sums plan cut)

-- The bill of a run, from its plan alone: over the minutes of a tick phase the devices take and give what they do at the
-- end of the phase before, and an account is the sum over all tick phases.
use Rattle.std.specs.Prelude.{ℕ, ◌-◌, ℤ, pos, if◌then◌else◌, List, ◌∷◌, length, map, filter, is_some, unwrap_or}
use Rattle.std.specs.List.{range_with_len}
use Rattle.pm_base.specs.Cuts.{Cut}
use Rattle.pm_basis.specs.Prices.{price_at}
use Rattle.pm_bid.specs.Bids.{demand_at}
use Rattle.pm_tree.specs.Entries.{leaves_of}
use Rattle.pm_plan.specs.Plans.{PlanData, is_leaf, node_numbers, phases, minutes_of, end_cut}
use Rattle.pm_plan.specs.Auction.{sum_in, limited_nodes, plain_step, local_step_of_group, local_step_in, power}
use Rattle.pm_plan.specs.States.{state}
use Rattle.pm_bill.specs.declared.account.Account.{Account}
use Rattle.pm_bill.specs.declared.share.Share.{Share}
use Rattle.pm_bill.specs.declared.share.GroupSum.{GroupSum}
use Rattle.pm_bill.specs.Accounts.{no_account, account_total}
use Rattle.pm_bill.specs.Shares.{sum_each, account_of_share, account_of_grid}
use Rattle.pm_bill.specs.Bills.{BillData}
use Rattle.pm_bill.specs.Text.{devices}

-- the tick phases of a plan
abbrev pub tick_phases : PlanData → List ℕ
tick_phases plan = filter (λ p. is_some (minutes_of plan p)) (range_with_len 1 (phases plan))

-- the minutes of a tick phase
abbrev pub tick_minutes : PlanData → ℕ → ℤ
tick_minutes plan p = unwrap_or (minutes_of plan p) (pos 0)

-- the cut that a tick phase is billed by: the changes of all phases before it
abbrev pub cut_before : PlanData → ℕ → Cut
cut_before plan p = end_cut plan (p - 1)

-- the share of a device in a cut: the price of its local step, and its power, which is 0 if it is no member
abbrev pub device_share : PlanData → Cut → ℕ → Share
device_share plan cut d =
    record { node = d; price = price_at plan.basis (local_step_in plan (state plan) cut d); power = power plan (state plan) cut d }

-- the shares of all devices in file order
abbrev pub device_shares : PlanData → Cut → List Share
device_shares plan cut = map (device_share plan cut) (devices plan)

-- what a group comes to in a cut: the price of the group's step, and the sum of the group there
abbrev pub group_sum : PlanData → Cut → ℕ → GroupSum
group_sum plan cut g =
    let step = local_step_of_group plan (state plan) cut (plain_step plan (state plan) cut) g in
    record { price = price_at plan.basis step; power = demand_at (sum_in plan (state plan) cut g) step }

-- all groups: that of the devices below no limited concentrator, and that of each limited concentrator
abbrev pub group_sums : PlanData → Cut → List GroupSum
group_sums plan cut = map (group_sum plan cut) (0 ∷ limited_nodes plan)

-- what a device gains in tick phase p
unfoldable pub device_gain : PlanData → ℕ → ℕ → Account
device_gain plan d p = account_of_share (tick_minutes plan p) (device_share plan (cut_before plan p) d)

-- what the grid gains in tick phase p
unfoldable pub grid_gain : PlanData → ℕ → Account
grid_gain plan p =
    account_of_grid (tick_minutes plan p) (device_shares plan (cut_before plan p)) (group_sums plan (cut_before plan p))

-- the account of a node over tick phases: of a device the sum of what it gains, and nothing for any other node
unfoldable pub node_account : PlanData → List ℕ → ℕ → Account
node_account plan ticks x = if is_leaf plan x then account_total (map (device_gain plan x) ticks) else no_account

-- the bill of tick phases: the account of each node, the auctioneer's first; that of the grid; how many tick phases there
-- are, and the sum of their minutes
unfoldable pub bill_over : PlanData → List ℕ → BillData
bill_over plan ticks = record {
  leaves = leaves_of plan.entries;
  accounts = map (node_account plan ticks) (0 ∷ node_numbers plan);
  grid = account_total (map (grid_gain plan) ticks);
  ticks = length ticks;
  minutes = sum_each (tick_minutes plan) ticks;
}

-- the bill of the run of a plan
abbrev pub plan_bill : PlanData → BillData
plan_bill plan = bill_over plan (tick_phases plan)

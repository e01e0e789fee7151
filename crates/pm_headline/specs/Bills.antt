-- What a bill of a plan tells: of each device what it took and gave over the tick phases, at its prices in the plain auction.
use Rattle.std.specs.Prelude.{◌≡◌, ℕ, ◌+◌, ℤ, neg_ℤ, ◌*ℤ◌, true, List, length, map}
use Rattle.pm_basis.specs.Prices.{price_at}
use Rattle.pm_bid.specs.Bids.{demand_at}
use Rattle.pm_tree.specs.Entries.{leaves_of}
use Rattle.pm_plan.specs.Plans.{PlanData, is_leaf}
use Rattle.pm_offer.specs.Offers.{device_demand}
use Rattle.pm_offer.specs.LocalSteps.{IsAuctionStep}
use Rattle.pm_bill.specs.declared.account.Account.{Account}
use Rattle.pm_bill.specs.Accounts.{account_at, account_total, account_of}
use Rattle.pm_bill.specs.declared.share.Share.{Share}
use Rattle.pm_bill.specs.Shares.{sum_each, group_cost}
use Rattle.pm_bill.specs.Bills.{BillData, AddsUp}
use Rattle.pm_bill.specs.Runs.{tick_phases, tick_minutes, cut_before, device_shares, group_sums, device_gain, grid_gain}
use Rattle.pm_bill.specs.Text.{bill_text}

-- what a device gains in tick phase p: its power is what its own bid demands at its local step in the plain auction over the
-- changes of the phases before, and it pays for each minute the price of that step
pub record IsGain (plan : PlanData) (d p : ℕ) (gain : Account) : Type 0 where
  pub step : ℕ
  pub goes_by : IsAuctionStep plan (cut_before plan p) d step
  pub is : let watts = demand_at (device_demand plan d (cut_before plan p d)) step in
      gain ≡ account_of (tick_minutes plan p) (price_at plan.basis step *ℤ watts) watts

-- what the grid gains in tick phase p: it takes and gives what all devices leave over, and is paid what the power of each group
-- costs at the group's own step
pub record IsGridGain (plan : PlanData) (p : ℕ) (gain : Account) : Type 0 where
  pub cost : ℤ
  pub taken : ℤ
  pub costs : cost ≡ sum_each group_cost (group_sums plan (cut_before plan p))
  pub takes : taken ≡ sum_each (λ (share : Share). share.power) (device_shares plan (cut_before plan p))
  pub is : gain ≡ account_of (tick_minutes plan p) (neg_ℤ cost) (neg_ℤ taken)

-- the text is that of a bill in which the account of each device, and that of the grid, is the sum of its gains over the tick
-- phases, no other node has anything, and the amounts of all devices and of the grid add up to 0
pub record TellsBill (plan : PlanData) (text : List ℕ) : Type 0 where
  pub bill : BillData
  pub written : text ≡ bill_text plan bill
  pub accounts : (d : ℕ) → is_leaf plan d ≡ true → account_at bill.accounts d ≡ account_total (map (device_gain plan d) (tick_phases plan))
  pub gains : (d p : ℕ) → is_leaf plan d ≡ true → IsGain plan d p (device_gain plan d p)
  pub leaves : bill.leaves ≡ leaves_of plan.entries
  pub one_each : length bill.accounts ≡ length bill.leaves + 1
  pub grid : bill.grid ≡ account_total (map (grid_gain plan) (tick_phases plan))
  pub grid_gains : (p : ℕ) → IsGridGain plan p (grid_gain plan p)
  pub adds_up : AddsUp bill
  pub ticks : bill.ticks ≡ length (tick_phases plan)
  pub minutes : bill.minutes ≡ sum_each (tick_minutes plan) (tick_phases plan)

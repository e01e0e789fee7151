-- A bill: the accounts of all devices and of the grid over ticks.
use Rattle.std.specs.Prelude.{◌≡◌, ℕ, ◌+◌, ◌*◌, ◌≤◌, ℤ, pos, ◌+ℤ◌, ◌≤ℤ◌, Bool, false, List, length, replicate, All}
use Rattle.pm_base.specs.Limits.{most_phases}
use Rattle.pm_device.specs.Kinds.{minutes_limit}
use Rattle.pm_tree.specs.Shape.{leaf_at}
use Rattle.pm_bill.specs.declared.account.Account.{Account}
use Rattle.pm_bill.specs.Accounts.{no_account, account_at, net_taken, tick_limit, IsAccountWithin}
use Rattle.pm_bill.specs.Shares.{sum_each}

-- whether node 1, 2, .. is a device; the accounts of node 0, 1, 2, ..; the account of the grid; how many ticks there
-- were, and how many minutes they have
pub record BillData : Type 0 where
  pub leaves : List Bool
  pub accounts : List Account
  pub grid : Account
  pub ticks : ℕ
  pub minutes : ℤ

-- a bill before its first tick
abbrev pub new_bill : List Bool → BillData
new_bill leaves = record {
  leaves = leaves;
  accounts = replicate (length leaves + 1) no_account;
  grid = no_account;
  ticks = 0;
  minutes = pos 0;
}

-- the amounts of all devices and of the grid add up to 0, and so do all taken less all given; no other node has anything
-- on its account
pub record AddsUp (bill : BillData) : Type 0 where
  pub amounts : sum_each (λ account. account.amount) bill.accounts +ℤ bill.grid.amount ≡ pos 0
  pub powers : sum_each net_taken bill.accounts +ℤ net_taken bill.grid ≡ pos 0
  pub others : (node : ℕ) → leaf_at bill.leaves node ≡ false → account_at bill.accounts node ≡ no_account

-- so many minutes may so many ticks have
pub record AreMinutesOf (ticks : ℕ) (minutes : ℤ) : Type 0 where
  pub least : pos 0 ≤ℤ minutes
  pub most : minutes ≤ℤ pos (ticks * minutes_limit)

-- what the type of a bill keeps: there is an account for each node, it adds up, and its numbers are no greater than its
-- ticks can make them
pub record IsBill (bill : BillData) : Type 0 where
  pub one_each : length bill.accounts ≡ length bill.leaves + 1
  pub adds_up : AddsUp bill
  pub few : bill.ticks ≤ most_phases
  pub minutes_of : AreMinutesOf bill.ticks bill.minutes
  pub within : All (IsAccountWithin (bill.ticks * tick_limit)) bill.accounts
  pub grid_within : IsAccountWithin (bill.ticks * tick_limit) bill.grid

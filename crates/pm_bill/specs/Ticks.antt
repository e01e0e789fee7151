-- The ticks that a bill took.
use Rattle.std.specs.Prelude.{◌≡◌, ℕ, ◌+◌, ℤ, ◌+ℤ◌, Bool, List, [], ◌∷◌, length}
use Rattle.pm_bill.specs.declared.share.Share.{Share}
use Rattle.pm_bill.specs.declared.share.GroupSum.{GroupSum}
use Rattle.pm_bill.specs.Accounts.{account_at, account_sum}
use Rattle.pm_bill.specs.Shares.{shares_of, account_of_shares, account_of_grid}
use Rattle.pm_bill.specs.Bills.{BillData, new_bill}

-- a tick: the shares and the groups that it adds, and its minutes
pub record TickData : Type 0 where
  pub shares : List Share
  pub groups : List GroupSum
  pub minutes : ℤ

-- a bill before and after a tick, in the words of the clauses of `Bill::tick`
pub record IsTicked (tick : TickData) (old new : BillData) : Type 0 where
  pub accounts : (node : ℕ) → account_at new.accounts node
      ≡ account_sum (account_at old.accounts node) (account_of_shares tick.minutes (shares_of node tick.shares))
  pub grid : new.grid ≡ account_sum old.grid (account_of_grid tick.minutes tick.shares tick.groups)
  pub one_each : length new.accounts ≡ length old.accounts
  pub leaves : new.leaves ≡ old.leaves
  pub ticks : new.ticks ≡ old.ticks + 1
  pub minutes : new.minutes ≡ old.minutes +ℤ tick.minutes

-- a bill after these ticks, the last of which stands first
abbrev pub IsAfterTicks : List Bool → List TickData → BillData → Type 0
IsAfterTicks leaves [] bill = bill ≡ new_bill leaves
IsAfterTicks leaves (tick ∷ earlier) bill = (before : BillData) × (IsAfterTicks leaves earlier before × IsTicked tick before bill)

-- After ticks each account is the sum of what each tick added to it.
use Rattle.std.proofs.Common.{◌≡◌, ◌∙◌, ap, ℕ, ◌+◌, List, [], ◌∷◌, length, map, arith, Bool}
use Rattle.std.proofs.lemmas.Int.{ints}
use Rattle.pm_base.proofs.Lists.{get_or-replicate_same}
use Rattle.pm_bill.specs.declared.account.Account.{Account}
use Rattle.pm_bill.specs.Accounts.{no_account, account_at, account_sum, account_total}
use Rattle.pm_bill.specs.Shares.{shares_of, sum_each, account_of_shares, account_of_grid}
use Rattle.pm_bill.specs.Bills.{BillData}
use Rattle.pm_bill.specs.Ticks.{TickData, IsAfterTicks}
use Rattle.pm_bill.proofs.AccountSums.{same_account}

-- accounts may be exchanged in a sum
account_sum_comm : (one other : Account) → account_sum one other ≡ account_sum other one
account_sum_comm one other = same_account _ _ (omega (arith, ints)) (omega (arith, ints)) (omega (arith, ints))

-- the account of a node is the sum of its shares
pub account_is : (leaves : List Bool) (ticks : List TickData) (bill : BillData) (node : ℕ) → IsAfterTicks leaves ticks bill →
    account_at bill.accounts node ≡ account_total (map (λ tick. account_of_shares tick.minutes (shares_of node tick.shares)) ticks)
account_is leaves [] bill node is =
    ap (λ (b : BillData). account_at b.accounts node) is ∙ get_or-replicate_same (length leaves + 1) node no_account
account_is leaves (tick ∷ earlier) bill node is =
    let gain = account_of_shares tick.minutes (shares_of node tick.shares) in
    is.1.1.accounts node
    ∙ ap (λ account. account_sum account gain) (account_is leaves earlier is.0 node is.1.0)
    ∙ account_sum_comm _ gain

-- the account of the grid is the sum of what it is due
pub grid_is : (leaves : List Bool) (ticks : List TickData) (bill : BillData) → IsAfterTicks leaves ticks bill →
    bill.grid ≡ account_total (map (λ tick. account_of_grid tick.minutes tick.shares tick.groups) ticks)
grid_is leaves [] bill is = ap (λ (b : BillData). b.grid) is
grid_is leaves (tick ∷ earlier) bill is =
    let gain = account_of_grid tick.minutes tick.shares tick.groups in
    is.1.1.grid ∙ ap (λ account. account_sum account gain) (grid_is leaves earlier is.0 is.1.0) ∙ account_sum_comm _ gain

-- a bill tells how many ticks there were
pub tick_count : (leaves : List Bool) (ticks : List TickData) (bill : BillData) → IsAfterTicks leaves ticks bill → bill.ticks ≡ length ticks
tick_count leaves [] bill is = ap (λ (b : BillData). b.ticks) is
tick_count leaves (tick ∷ earlier) bill is = omega (arith, is.1.1.ticks, tick_count leaves earlier is.0 is.1.0)

-- and how many minutes they had
pub all_minutes : (leaves : List Bool) (ticks : List TickData) (bill : BillData) → IsAfterTicks leaves ticks bill →
    bill.minutes ≡ sum_each (λ tick. tick.minutes) ticks
all_minutes leaves [] bill is = ap (λ (b : BillData). b.minutes) is
all_minutes leaves (tick ∷ earlier) bill is =
    omega (arith, ints, is.1.1.minutes, all_minutes leaves earlier is.0 is.1.0)

-- what accounts are after any list of ticks
pub ruleset tick_sums = (account_is, grid_is, tick_count, all_minutes)

-- Accounts: what power costs, and how much of it is taken and given.
use Rattle.std.specs.Prelude.{ℕ, ◌+◌, ◌*◌, ℤ, pos, negsuc, neg_ℤ, ◌+ℤ◌, ◌-ℤ◌, ◌*ℤ◌, List, [], ◌∷◌, slice_index_or}
use Rattle.pm_base.specs.Limits.{most_nodes, price_limit, sum_limit, IsWithin}
use Rattle.pm_device.specs.Kinds.{minutes_limit}
use Rattle.pm_bill.specs.declared.account.Account.{Account}

-- an account without anything
abbrev pub no_account : Account
no_account = record { amount = pos 0; taken = pos 0; given = pos 0 }

-- the account of a node, from accounts of node 0, 1, 2, ..
abbrev pub account_at : List Account → ℕ → Account
account_at accounts node = slice_index_or accounts node no_account

-- two accounts added
abbrev pub account_sum : Account → Account → Account
account_sum one other =
    record { amount = one.amount +ℤ other.amount; taken = one.taken +ℤ other.taken; given = one.given +ℤ other.given }

-- the sum of accounts
abbrev pub account_total : List Account → Account
account_total [] = no_account
account_total (account ∷ accounts) = account_sum account (account_total accounts)

-- a number if it is positive, else 0
abbrev pub positive_part : ℤ → ℤ
positive_part (pos n) = pos n
positive_part (negsuc n) = pos 0

-- the account of a power over so many minutes, if each minute costs so much: power that is positive is taken, and
-- power that is negative is given
abbrev pub account_of : ℤ → ℤ → ℤ → Account
account_of minutes cost power = record {
  amount = cost *ℤ minutes;
  taken = positive_part power *ℤ minutes;
  given = positive_part (neg_ℤ power) *ℤ minutes;
}

-- what an account took less what it gave
abbrev pub net_taken : Account → ℤ
net_taken account = account.taken -ℤ account.given

-- the most that a minute of all groups costs
abbrev pub cost_limit : ℕ
cost_limit = (most_nodes + 1) * (price_limit * sum_limit)

-- the most that a tick costs
abbrev pub tick_limit : ℕ
tick_limit = cost_limit * minutes_limit

-- each number of an account lies between -limit and limit
pub record IsAccountWithin (limit : ℕ) (account : Account) : Type 0 where
  pub amount : IsWithin limit account.amount
  pub taken : IsWithin limit account.taken
  pub given : IsWithin limit account.given

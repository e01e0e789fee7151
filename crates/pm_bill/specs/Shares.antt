-- A tick's shares: what each device pays for its power, and what each group's power comes to.
use Rattle.std.specs.Prelude.{◌≡◌, ◌≢◌, ℕ, ◌+◌, ◌≤◌, ◌==◌, ℤ, pos, neg_ℤ, ◌+ℤ◌, ◌*ℤ◌, Bool, true, List, []}
use Rattle.std.specs.Prelude.{◌∷◌, length, filter, map, All}
use Rattle.std.specs.List.{AllPairs}
use Rattle.pm_base.specs.Limits.{IsWithin, price_limit, demand_limit, sum_limit, most_nodes}
use Rattle.pm_tree.specs.Shape.{leaf_at}
use Rattle.pm_bill.specs.declared.account.Account.{Account}
use Rattle.pm_bill.specs.declared.share.Share.{Share}
use Rattle.pm_bill.specs.declared.share.GroupSum.{GroupSum}
use Rattle.pm_bill.specs.Accounts.{account_at, account_sum, account_total, account_of, net_taken, tick_limit, IsAccountWithin}

-- one number of each element, added up
abbrev pub sum_each : {X : Type 0} → (X → ℤ) → List X → ℤ
sum_each part [] = pos 0
sum_each part (x ∷ xs) = part x +ℤ sum_each part xs

-- what the power of a device costs a minute
abbrev pub share_cost : Share → ℤ
share_cost share = share.price *ℤ share.power

-- what the power of a group costs a minute
abbrev pub group_cost : GroupSum → ℤ
group_cost group = group.price *ℤ group.power

-- the shares of a node
abbrev pub shares_of : ℕ → List Share → List Share
shares_of node shares = filter (λ share. share.node == node) shares

-- the account of a share over so many minutes
abbrev pub account_of_share : ℤ → Share → Account
account_of_share minutes share = account_of minutes (share_cost share) share.power

-- the account of shares: the sum of theirs
unfoldable pub account_of_shares : ℤ → List Share → Account
account_of_shares minutes shares = account_total (map (account_of_share minutes) shares)

-- the account of the grid: it is paid what the groups' power costs, and takes and gives what the devices leave over
unfoldable pub account_of_grid : ℤ → List Share → List GroupSum → Account
account_of_grid minutes shares groups =
    account_of minutes (neg_ℤ (sum_each group_cost groups)) (neg_ℤ (sum_each (λ share. share.power) shares))

-- shares of different devices, with prices and powers of a device
pub record AreShares (leaves : List Bool) (shares : List Share) : Type 0 where
  pub devices : All (λ share. leaf_at leaves share.node ≡ true) shares
  pub different : AllPairs (λ one other. one.node ≢ other.node) shares
  pub prices : All (λ share. IsWithin price_limit share.price) shares
  pub powers : All (λ share. IsWithin demand_limit share.power) shares

-- groups with prices and sums: as many as there may be limited concentrators, and the group of all other devices
pub record AreGroups (groups : List GroupSum) : Type 0 where
  pub few : length groups ≤ most_nodes + 1
  pub prices : All (λ group. IsWithin price_limit group.price) groups
  pub powers : All (λ group. IsWithin sum_limit group.power) groups

-- devices and groups have the same power in all, and it costs the same
pub record ComeToTheSame (shares : List Share) (groups : List GroupSum) : Type 0 where
  pub powers : sum_each (λ share. share.power) shares ≡ sum_each (λ group. group.power) groups
  pub costs : sum_each share_cost shares ≡ sum_each group_cost groups

-- shares over so many minutes were added to accounts: each node gained the account of its shares, and nothing else; so
-- the amounts, and what was taken less what was given, grew by what all shares have, and no account grew by more than a
-- tick can make it
pub record AreAdded (minutes : ℤ) (shares : List Share) (old new : List Account) : Type 0 where
  pub gains : (node : ℕ) → account_at new node ≡ account_sum (account_at old node) (account_of_shares minutes (shares_of node shares))
  pub amounts : sum_each (λ account. account.amount) new ≡ sum_each (λ account. account.amount) old +ℤ (sum_each share_cost shares *ℤ minutes)
  pub powers : sum_each net_taken new ≡ sum_each net_taken old +ℤ (sum_each (λ share. share.power) shares *ℤ minutes)
  pub within : (limit : ℕ) → All (IsAccountWithin limit) old → All (IsAccountWithin (limit + tick_limit)) new

-- A bill keeps its facts over a tick.
use Rattle.std.proofs.Common.{◌≡◌, ◌∙◌, sym, ap, subst, ℕ, ◌+◌, ◌*◌, ◌<◌, true, false, ℤ, pos, neg_ℤ, ◌+ℤ◌, ◌*ℤ◌}
use Rattle.std.proofs.Common.{List, ◌∷◌, ◌++◌, length, take, drop}
use Rattle.std.proofs.Common.{refl, replicate, arith, Bool, inl, inr}
use Rattle.std.specs.Prelude.{All, IsTrue}
use Rattle.std.proofs.Math.IntN.{zero-*ℤ}
use Rattle.std.proofs.Math.ListN.{get_or-eq_default}
use Rattle.std.proofs.lemmas.Bool.{cases_lt}
use Rattle.std.proofs.lemmas.Int.{ints}
use Rattle.std.proofs.lemmas.List.{length-replicate, take_at}
use Rattle.std.proofs.lemmas.List.Elements.{All-replicate}
use Rattle.pm_base.specs.Limits.{most_phases, IsWithin}
use Rattle.pm_base.proofs.Lists.{get_or-replicate_same}
use Rattle.pm_plan.specs.Kept.{are_minutes}
use Rattle.pm_tree.specs.Shape.{leaf_at}
use Rattle.pm_bill.specs.declared.account.Account.{Account}
use Rattle.pm_bill.specs.declared.share.Share.{Share}
use Rattle.pm_bill.specs.declared.share.GroupSum.{GroupSum}
use Rattle.pm_bill.specs.Accounts.{no_account, account_at, account_sum, account_of, net_taken, cost_limit, tick_limit, IsAccountWithin}
use Rattle.pm_bill.specs.Shares.{sum_each, group_cost, account_of_shares, account_of_grid, AreShares, ComeToTheSame, AreAdded}
use Rattle.pm_bill.specs.Bills.{BillData, new_bill, AddsUp, IsBill}
use Rattle.pm_bill.proofs.Products.{sum-times, minutes_within, minutes_positive}
use Rattle.pm_bill.proofs.AccountSums.{account_sum-none, account_sum_within, net_taken-account_sum, net_taken-account_of, account_of_within}
use Rattle.pm_bill.proofs.ShareSums.{sum_each-replicate, account_of_shares-none, no_shares, no_account_within}

-- a device has an account
pub leaf_has_account : (leaves : List Bool) (node : ℕ) → leaf_at leaves node ≡ true → node < length leaves + 1
leaf_has_account leaves node leaf = elim (cases_lt (length leaves) node) [
  | inl outside ↦
      let none = get_or-eq_default (false ∷ leaves) false {n = node} (omega arith) in
      absurd (cc (sym none ∙ leaf))
  | inr inside ↦ omega arith
]

-- the opposite of a number times a number
pub neg-times : (a m : ℤ) → (a *ℤ m) +ℤ (neg_ℤ a *ℤ m) ≡ pos 0
neg-times a m =
    let none : a +ℤ neg_ℤ a ≡ pos 0 = omega (arith, ints) in
    sym (sum-times a (neg_ℤ a) m) ∙ ap (λ z. z *ℤ m) none ∙ zero-*ℤ m

-- the bill after a tick
abbrev pub ticked : BillData → ℤ → List Share → List GroupSum → List Account → BillData
ticked bill minutes shares groups accounts = record {
  leaves = bill.leaves;
  accounts = accounts;
  grid = account_sum bill.grid (account_of_grid minutes shares groups);
  ticks = bill.ticks + 1;
  minutes = bill.minutes +ℤ minutes;
}

adds_up : (bill : BillData) (minutes : ℤ) (shares : List Share) (groups : List GroupSum) (accounts : List Account) → AddsUp bill →
    AreShares bill.leaves shares → ComeToTheSame shares groups → AreAdded minutes shares bill.accounts accounts →
    AddsUp (ticked bill minutes shares groups accounts)
unfolding account_of_grid
adds_up bill minutes shares groups accounts before are same added =
    let power = sum_each (λ (share : Share). share.power) shares in
    let due = account_of minutes (neg_ℤ (sum_each group_cost groups)) (neg_ℤ power) in
    record {
      amounts =
          let cost = ap (λ z. z *ℤ minutes) same.costs in
          let opposite = neg-times (sum_each group_cost groups) minutes in
          omega (arith, ints, before.amounts, added.amounts, cost, opposite);
      powers =
          let opposite = neg-times power minutes in
          let both = net_taken-account_sum bill.grid due in
          let its_own = net_taken-account_of minutes (neg_ℤ (sum_each group_cost groups)) (neg_ℤ power) in
          omega (arith, ints, before.powers, added.powers, opposite, both, its_own);
      others = λ node none.
          let no_share = no_shares node shares (λ k d inside is. absurd (cc (are.devices k d inside, ap (leaf_at bill.leaves) is, none))) in
          added.gains node
          ∙ ap (λ own. account_sum (account_at bill.accounts node) (account_of_shares minutes own)) no_share
          ∙ ap (account_sum (account_at bill.accounts node)) (account_of_shares-none minutes)
          ∙ account_sum-none (account_at bill.accounts node)
          ∙ before.others node none;
    }

-- what a tick owes to its conditions
pub record MayTick (bill : BillData) (minutes : ℤ) (shares : List Share) (groups : List GroupSum) : Type 0 where
  -- the bill has fewer ticks than a run may have phases
  pub few : bill.ticks < most_phases
  -- the minutes are such as a tick may have
  pub are : IsTrue (are_minutes minutes)
  -- the shares are of different devices of the bill, with prices and powers of a device
  pub shares_are : AreShares bill.leaves shares
  -- the shares and the groups have the same power in all, and it costs the same
  pub same : ComeToTheSame shares groups
  -- what all groups cost a minute, negated, lies within the limit of a minute's cost
  pub cost : IsWithin cost_limit (neg_ℤ (sum_each group_cost groups))
  -- the power of all shares, negated, lies within the limit of a minute's cost
  pub power : IsWithin cost_limit (neg_ℤ (sum_each (λ share. share.power) shares))

more_limit : (ticks : ℕ) → ticks * tick_limit + tick_limit ≡ (ticks + 1) * tick_limit
more_limit ticks = omega arith

-- a tick keeps what the type of a bill keeps
pub keeps_bill : (bill : BillData) (minutes : ℤ) (shares : List Share) (groups : List GroupSum) (accounts : List Account) → IsBill bill →
    MayTick bill minutes shares groups → AreAdded minutes shares bill.accounts accounts → length accounts ≡ length bill.accounts →
    IsBill (ticked bill minutes shares groups accounts)
unfolding account_of_grid
keeps_bill bill minutes shares groups accounts is may added long =
    let most = minutes_within minutes may.are in
    record {
      one_each = long ∙ is.one_each;
      adds_up = adds_up bill minutes shares groups accounts is.adds_up may.shares_are may.same added;
      few = omega (arith, may.few);
      minutes_of = record {
        least = omega (arith, ints, is.minutes_of.least, minutes_positive minutes may.are);
        most = omega (arith, ints, is.minutes_of.most, most);
      };
      within = subst (λ (limit : ℕ). All (IsAccountWithin limit) accounts) (more_limit bill.ticks) (added.within (bill.ticks * tick_limit) is.within);
      grid_within = account_sum_within (bill.ticks * tick_limit) tick_limit ((bill.ticks + 1) * tick_limit) bill.grid _ (more_limit bill.ticks) is.grid_within
          (account_of_within minutes (neg_ℤ (sum_each group_cost groups)) (neg_ℤ (sum_each (λ (share : Share). share.power) shares))
          may.are may.cost may.power);
    }

-- a new bill
pub new_bill_is : (leaves : List Bool) → IsBill (new_bill leaves)
new_bill_is leaves = record {
  one_each = length-replicate (length leaves + 1) no_account;
  adds_up = record {
    amounts = let none = sum_each-replicate (λ (account : Account). account.amount) (length leaves + 1) no_account refl in omega (arith, ints, none);
    powers = let none = sum_each-replicate net_taken (length leaves + 1) no_account refl in omega (arith, ints, none);
    others = λ node none. get_or-replicate_same (length leaves + 1) node no_account;
  };
  few = omega arith;
  minutes_of = record { least = omega (arith, ints); most = omega (arith, ints) };
  within = All-replicate (IsAccountWithin (0 * tick_limit)) (length leaves + 1) no_account (no_account_within (0 * tick_limit));
  grid_within = no_account_within (0 * tick_limit);
}

-- and so does the bill that is opened
pub opens_bill : (leaves : List Bool) (accounts : List Account) (grid : Account) → accounts ≡ replicate (length leaves + 1) no_account →
    grid ≡ no_account → IsBill (record { leaves = leaves; accounts = accounts; grid = grid; ticks = 0; minutes = pos 0 })
opens_bill leaves accounts grid accounts_are grid_is = rw (accounts_are, grid_is) (new_bill_is leaves)

-- what a list that was lent as a slice has after it is written back
pub written_back : {A : Type 0} (old new : List A) (n : ℕ) → n ≡ length old → length new ≡ length old →
    take n (new ++ drop (length new) old) ≡ new
written_back old new n is same = take_at new (drop (length new) old) n (same ∙ sym is)

-- Of `Bill::tick`: its clauses, that the sums of shares and groups fit, and what its calls require.
use Rattle.std.proofs.Common.{arith, ◌≡◌, ◌∙◌, sym, ap, subst, ℕ, ◌+◌, ◌*◌, ◌<◌, ◌++◌, length, take, drop, w64, to_z, of_z, ℤ}
use Rattle.std.proofs.Common.{neg_ℤ, ◌+ℤ◌, List}
use Rattle.std.specs.Prelude.{IsTrue}
use Rattle.std.specs.Int.{w128}
use Rattle.std.proofs.lemmas.Int.{ints, to_z-of_z}
use Rattle.std.proofs.lemmas.Grind.{common_steps}
use mir.Val.{SFits}
use Rattle.pm_base.specs.Limits.{most_phases, IsWithin}
use Rattle.pm_plan.specs.Kept.{are_minutes}
use Rattle.pm_bill.specs.declared.share.Share.{Share}
use Rattle.pm_bill.specs.Accounts.{account_at, account_sum, account_of, cost_limit, tick_limit}
use Rattle.pm_bill.specs.Shares.{sum_each, group_cost, shares_of, account_of_shares, account_of_grid, AreShares, AreAdded}
use Rattle.pm_bill.specs.Bills.{BillData, AreMinutesOf}
use Rattle.pm_bill.proofs.Products.{minutes_within, opposite_of, opposite_fits, opposite_is, opposite_within}
use Rattle.pm_bill.proofs.ShareSums.{account_wider, all_wider}
use Rattle.pm_bill.proofs.Ticks.{written_back, keeps_bill, MayTick, leaf_has_account}
use Rattle.pm_bill.proofs.bill.Bill.tick.Goals as goal

-- what a tick asks of the bill, of the fields that the bill is made of
of_fields : (now fields : BillData) (shares : List Share) → fields ≡ now → now.ticks < most_phases → AreShares now.leaves shares →
    (fields.ticks < most_phases) × AreShares fields.leaves shares
of_fields now fields shares is ticks are = (
  subst (λ (bill : BillData). bill.ticks < most_phases) (sym is) ticks,
  subst (λ (bill : BillData). AreShares bill.leaves shares) (sym is) are,
)

-- the opposite of a number, as the code computes it
abbrev negated : ℤ → ℤ
negated number = to_z w128 (of_z w128 (opposite_of number))

opposite : (number sum : ℤ) → IsWithin cost_limit number → number ≡ sum →
    (negated number ≡ neg_ℤ sum) × IsWithin cost_limit (neg_ℤ sum)
opposite number sum within is = (
  opposite_is number within ∙ ap neg_ℤ is,
  rw (← is) (record { low = omega (arith, ints, within); high = omega (arith, ints, within) }),
)

-- the minutes after a tick, as the code computes them
minutes_after : (ticks : ℕ) (minutes more : ℤ) → ticks < most_phases → AreMinutesOf ticks minutes → IsTrue (are_minutes more) →
    to_z w64 (of_z w64 (to_z w64 (of_z w64 minutes) +ℤ to_z w64 (of_z w64 more))) ≡ minutes +ℤ more
minutes_after ticks minutes more few before are =
    omega (arith, ints, before.least, before.most, minutes_within more are)

-- and that they fit
minutes_fit : (ticks : ℕ) (minutes more : ℤ) → ticks < most_phases → AreMinutesOf ticks minutes → IsTrue (are_minutes more) →
    SFits w64 (to_z w64 (of_z w64 minutes) +ℤ to_z w64 (of_z w64 more))
minutes_fit ticks minutes more few before are =
    omega (arith, ints, before.least, before.most, minutes_within more are)

pub add_shares-requires-clause-inside : goal.add_shares-requires-clause-inside
add_shares-requires-clause-inside c = λ k d inside.
    let asked = of_fields c.args.self.now _ c.args.shares.now c.self.view_is c.requires.ticks c.requires.shares in
    let has = leaf_has_account c.self.inside.leaves.items _ (asked.1.devices k d inside) in
    omega (arith, has, c.self.invariant.one_each, c.deref_mut.ensures.len, ap length c.deref_mut.ensures.value)

pub add_shares-requires-clause-within : goal.add_shares-requires-clause-within
add_shares-requires-clause-within c =
    let asked = of_fields c.args.self.now _ c.args.shares.now c.self.view_is c.requires.ticks c.requires.shares in
    let ticks : c.self.inside.ticks < most_phases = asked.0 in
    rw c.deref_mut.ensures.value (all_wider (c.self.inside.ticks * tick_limit) (most_phases * tick_limit) c.self.inside.accounts.items
    (omega (arith, ticks)) c.self.invariant.within)

pub sums_of_groups-cost-requires : goal.sums_of_groups-cost-requires
sums_of_groups-cost-requires c = c.requires.groups

pub overflow_sub-cost : goal.overflow_sub-cost
overflow_sub-cost c = opposite_fits _ c.sums_of_groups-cost.ensures.cost_within

pub overflow_sub-power : goal.overflow_sub-power
overflow_sub-power c = opposite_fits _ c.sums_of_groups-cost.ensures.power_within

pub add-requires-clause-cost : goal.add-requires-clause-cost
add-requires-clause-cost c = opposite_within _ c.sums_of_groups-cost.ensures.cost_within

pub add-requires-clause-power : goal.add-requires-clause-power
add-requires-clause-power c = opposite_within _ c.sums_of_groups-cost.ensures.power_within

pub overflow_add-self-2 : goal.overflow_add-self-2
overflow_add-self-2 c =
    let asked = of_fields c.args.self.now _ c.args.shares.now c.self.view_is c.requires.ticks c.requires.shares in
    minutes_fit c.self.inside.ticks c.self.inside.minutes c.args.minutes asked.0 c.self.invariant.minutes_of c.requires.minutes

-- the grid's account after the tick
grid_is : (c : goal.After-self-4-1) → c.add.new.self ≡ account_sum c.self.inside.grid (account_of_grid c.args.minutes c.args.shares.now c.args.groups.now)
unfolding account_of_grid
grid_is c =
    let cost = opposite c.sums_of_groups-cost.result.0 _ c.sums_of_groups-cost.ensures.cost_within c.sums_of_groups-cost.ensures.cost in
    let power = opposite c.sums_of_groups-cost.result.1 _ c.sums_of_groups-cost.ensures.power_within
    (c.sums_of_groups-cost.ensures.power ∙ sym c.requires.same.powers) in
    let minutes = to_z-of_z w64 c.args.minutes c.ranges.minutes in
    let grid = c.self.inside.grid in
    c.add.ensures
    ∙ ap (λ z. account_sum grid (account_of z (negated c.sums_of_groups-cost.result.0) (negated c.sums_of_groups-cost.result.1))) minutes
    ∙ ap (λ z. account_sum grid (account_of c.args.minutes z (negated c.sums_of_groups-cost.result.1))) cost.0
    ∙ ap (λ z. account_sum grid (account_of c.args.minutes (neg_ℤ (sum_each group_cost c.args.groups.now)) z)) power.0

-- the accounts after the tick
accounts_are : (c : goal.After-self-4-1) →
    take c.self.inside.accounts.len (c.add_shares.new.accounts ++ drop (length c.add_shares.new.accounts) c.self.inside.accounts.items)
    ≡ c.add_shares.new.accounts
accounts_are c =
    written_back c.self.inside.accounts.items c.add_shares.new.accounts c.self.inside.accounts.len (omega arith)
    (omega (arith, c.add_shares.auto.accounts, c.deref_mut.ensures.len, ap length c.deref_mut.ensures.value))

added : (c : goal.After-self-4-1) → AreAdded c.args.minutes c.args.shares.now c.self.inside.accounts.items c.add_shares.new.accounts
added c =
    let at_fields = rw c.deref_mut.ensures.value at c.add_shares.ensures in
    subst (λ (z : ℤ). AreAdded z c.args.shares.now c.self.inside.accounts.items c.add_shares.new.accounts)
    (to_z-of_z w64 c.args.minutes c.ranges.minutes) at_fields

-- the bill before the tick
abbrev fields_of : goal.After-self-4-1 → BillData
fields_of c = record {
  leaves = c.self.inside.leaves.items;
  accounts = c.self.inside.accounts.items;
  grid = c.self.inside.grid;
  ticks = c.self.inside.ticks;
  minutes = c.self.inside.minutes;
}

pub invariant_of-self : goal.invariant_of-self
invariant_of-self c =
    let asked = of_fields c.args.self.now _ c.args.shares.now c.self.view_is c.requires.ticks c.requires.shares in
    let minutes = minutes_after c.self.inside.ticks c.self.inside.minutes c.args.minutes asked.0 c.self.invariant.minutes_of c.requires.minutes in
    let cost = opposite c.sums_of_groups-cost.result.0 _ c.sums_of_groups-cost.ensures.cost_within c.sums_of_groups-cost.ensures.cost in
    let power = opposite c.sums_of_groups-cost.result.1 _ c.sums_of_groups-cost.ensures.power_within
    (c.sums_of_groups-cost.ensures.power ∙ sym c.requires.same.powers) in
    let may : MayTick (fields_of c) c.args.minutes c.args.shares.now c.args.groups.now = record {
      few = asked.0;
      are = c.requires.minutes;
      shares_are = asked.1;
      same = c.requires.same;
      cost = cost.1;
      power = power.1;
    } in
    let long : length c.add_shares.new.accounts ≡ length c.self.inside.accounts.items =
    omega (arith, c.add_shares.auto.accounts, c.deref_mut.ensures.len, ap length c.deref_mut.ensures.value) in
    rw (accounts_are c, grid_is c, minutes)
    (keeps_bill (fields_of c) c.args.minutes c.args.shares.now c.args.groups.now c.add_shares.new.accounts c.self.invariant may (added c) long)

pub returns-clause-accounts : goal.returns-clause-accounts
returns-clause-accounts c = λ node.
    ap (λ accounts. account_at accounts node) (accounts_are c)
    ∙ (added c).gains node
    ∙ ap (λ (bill : BillData). account_sum (account_at bill.accounts node)
    (account_of_shares c.args.minutes (shares_of node c.args.shares.now))) c.self.view_is

pub returns-clause-grid : goal.returns-clause-grid
returns-clause-grid c =
    grid_is c ∙ ap (λ (bill : BillData). account_sum bill.grid (account_of_grid c.args.minutes c.args.shares.now c.args.groups.now)) c.self.view_is

pub returns-clause-minutes : goal.returns-clause-minutes
returns-clause-minutes c =
    let asked = of_fields c.args.self.now _ c.args.shares.now c.self.view_is c.requires.ticks c.requires.shares in
    let minutes = minutes_after c.self.inside.ticks c.self.inside.minutes c.args.minutes asked.0 c.self.invariant.minutes_of c.requires.minutes in
    minutes ∙ ap (λ (bill : BillData). bill.minutes +ℤ c.args.minutes) c.self.view_is

pub add-requires-clause-old : goal.add-requires-clause-old
add-requires-clause-old c =
    let asked = of_fields c.args.self.now _ c.args.shares.now c.self.view_is c.requires.ticks c.requires.shares in
    let ticks : c.self.inside.ticks < most_phases = asked.0 in
    account_wider (c.self.inside.ticks * tick_limit) (most_phases * tick_limit) c.self.inside.grid (omega (arith, ticks)) c.self.invariant.grid_within

pub returns-clause-ticks : goal.returns-clause-ticks
returns-clause-ticks c = ap (λ (bill : BillData). bill.ticks + 1) c.self.view_is

pub returns-clause-one_each : goal.returns-clause-one_each
returns-clause-one_each c = grind (arith, common_steps)

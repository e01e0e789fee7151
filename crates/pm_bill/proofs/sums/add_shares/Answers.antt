-- Of `add_shares`: what the calls of `add`, `cost_of` and `bounds` require; the turns of its loop over `share`.
use Rattle.std.proofs.Common.{arith, ◌≡◌, ◌∙◌, sym, ap, subst, ℕ, ℤ, pos, ◌*◌, ◌++◌, ◌∷◌, [], List, length, ◌<◌, get_or, take}
use Rattle.std.proofs.Common.{w64, to_z, of_z}
use Rattle.std.specs.Prelude.{IsTrue}
use Rattle.std.specs.Int.{w128}
use Rattle.std.proofs.Math.ListN.{set}
use Rattle.std.proofs.lemmas.Int.{ints, to_z-of_z}
use Rattle.std.proofs.lemmas.List.{take_more}
use Rattle.pm_base.specs.Limits.{IsWithin, most_phases, price_limit, demand_limit, sum_limit}
use Rattle.pm_base.proofs.Ints.{wider}
use Rattle.pm_plan.specs.Kept.{are_minutes}
use Rattle.pm_bill.specs.declared.account.Account.{Account}
use Rattle.pm_bill.specs.declared.share.Share.{Share}
use Rattle.pm_bill.specs.Accounts.{account_at, account_sum, account_of, cost_limit, tick_limit}
use Rattle.pm_bill.specs.Shares.{share_cost, account_of_share, AreAdded}
use Rattle.pm_bill.proofs.Products.{computed_cost, word_within}
use Rattle.pm_bill.proofs.AccountSums.{account_of_within}
use Rattle.pm_bill.proofs.ShareSums.{none_added, share_added, not_yet_added, no_earlier}
use Rattle.pm_bill.proofs.sums.add_shares.Goals as goal

abbrev no_share : Share
no_share = record { node = 0; price = pos 0; power = pos 0 }

-- a power of 64 bits stays the same as one of 128
power_kept : (power from : ℤ) → IsWithin demand_limit power → from ≡ to_z w64 (of_z w64 power) → to_z w128 (of_z w128 from) ≡ power
power_kept power from within is = omega (arith, ints, within, is)

pub loop-share-init : goal.loop-share-init
loop-share-init c = none_added _ _

pub add-requires-clause-old : goal.add-requires-clause-old
add-requires-clause-old c =
    let shares = c.args.shares.now in
    let share = get_or shares c.loop-share.share-index no_share in
    let inside = c.loop-share-test.true in
    not_yet_added _ _ share (most_phases * tick_limit) _ _ c.loop-share.invariant
    (no_earlier shares c.loop-share.share-index no_share c.requires.different inside) c.requires.within

pub cost_of-cost-requires-clause-price : goal.cost_of-cost-requires-clause-price
cost_of-cost-requires-clause-price c =
    word_within price_limit _ (omega arith) (c.requires.prices c.loop-share.share-index no_share c.loop-share-test.true)

pub cost_of-cost-requires-clause-power : goal.cost_of-cost-requires-clause-power
cost_of-cost-requires-clause-power c =
    let power = c.requires.powers c.loop-share.share-index no_share c.loop-share-test.true in
    word_within sum_limit _ (omega arith) (wider demand_limit sum_limit _ (omega arith) power)

pub bounds-accounts-share : goal.bounds-accounts-share
bounds-accounts-share c =
    let share = get_or c.args.shares.now c.loop-share.share-index no_share in
    subst (λ (long : ℕ). share.node < long) (sym c.loop-share.auto.accounts)
    (c.requires.inside c.loop-share.share-index no_share c.loop-share-test.true)

pub add-requires-clause-power : goal.add-requires-clause-power
add-requires-clause-power c =
    let share = get_or c.args.shares.now c.loop-share.share-index no_share in
    let power = c.requires.powers c.loop-share.share-index no_share c.loop-share-test.true in
    subst (IsWithin cost_limit) (sym (power_kept share.power c.from.result power c.from.ensures))
    (wider demand_limit cost_limit share.power (omega arith) power)

pub add-requires-clause-cost : goal.add-requires-clause-cost
add-requires-clause-cost c =
    let share = get_or c.args.shares.now c.loop-share.share-index no_share in
    let inside = c.loop-share-test.true in
    let power = wider demand_limit sum_limit share.power (omega arith) (c.requires.powers _ no_share inside) in
    let cost = computed_cost share.price share.power c.cost_of-cost.result (c.requires.prices _ no_share inside) power c.cost_of-cost.ensures in
    record { low = omega (arith, ints, cost.computed, cost.within); high = omega (arith, ints, cost.computed, cost.within) }

pub loop-share-preserved : goal.loop-share-preserved
loop-share-preserved c =
    let shares = c.args.shares.now in
    let at = c.loop-share.share-index in
    let share = get_or shares at no_share in
    let inside = c.loop-share-test.true in
    let power = c.requires.powers at no_share inside in
    let cost = computed_cost share.price share.power c.cost_of-cost.result (c.requires.prices at no_share inside)
    (wider demand_limit sum_limit share.power (omega arith) power) c.cost_of-cost.ensures in
    let power_is : to_z w128 (of_z w128 c.from.result) ≡ share.power = power_kept share.power c.from.result power c.from.ensures in
    let minutes = to_z w64 (of_z w64 c.args.minutes) in
    let now = c.loop-share.accounts in
    let here : share.node < length now = omega (arith, c.requires.inside at no_share inside, c.loop-share.auto.accounts) in
    let cost_small : IsWithin cost_limit (share_cost share) = record { low = omega (arith, ints, cost.within); high = omega (arith, ints, cost.within) } in
    let power_small : IsWithin cost_limit share.power = wider demand_limit cost_limit share.power (omega arith) power in
    let are : IsTrue (are_minutes minutes) =
    subst (λ (z : ℤ). IsTrue (are_minutes z)) (sym (to_z-of_z w64 c.args.minutes c.ranges.minutes)) c.requires.minutes in
    let one = share_added minutes (take at shares) share c.args.accounts.now now here c.loop-share.invariant
    (no_earlier shares at no_share c.requires.different inside) (account_of_within minutes (share_cost share) share.power are cost_small power_small) in
    let new : c.add.new.self ≡ account_sum (account_at now share.node) (account_of_share minutes share) =
    c.add.ensures
    ∙ ap (λ z. account_sum (account_at now share.node) (account_of minutes z (to_z w128 (of_z w128 c.from.result)))) cost.computed
    ∙ ap (λ z. account_sum (account_at now share.node) (account_of minutes (share_cost share) z)) power_is in
    let P : Account → Type 0 = λ a. AreAdded minutes (take at shares ++ share ∷ []) c.args.accounts.now (set now share.node a) in
    subst (λ (some : List Share). AreAdded minutes some c.args.accounts.now (set now share.node c.add.new.self))
    (sym (take_more shares at no_share inside)) (subst P (sym new) one)

-- Of `sums_of_groups`: its clauses `cost` and `cost_within`; what the call of `cost_of` requires; the turns of its loop over `group`; that its numbers fit.
use Rattle.std.proofs.Common.{arith, ◌≡◌, ◌∙◌, sym, ap, ℕ, ◌+◌, ◌*◌, ◌<◌, ◌≤◌, ℤ, pos, ◌+ℤ◌, ◌*ℤ◌}
use Rattle.std.proofs.Common.{get_or, take_all, w64, to_z, of_z}
use Rattle.std.specs.Int.{w128}
use Rattle.std.proofs.lemmas.Int.{ints}
use mir.Val.{SFits}
use Rattle.pm_base.specs.Limits.{IsWithin, most_nodes, price_limit, sum_limit}
use Rattle.pm_base.proofs.Ints.{wider}
use Rattle.pm_bill.specs.declared.share.GroupSum.{GroupSum}
use Rattle.pm_bill.specs.Accounts.{cost_limit}
use Rattle.pm_bill.specs.Shares.{sum_each, group_cost}
use Rattle.pm_bill.proofs.Products.{Costs, computed_cost, word_within}
use Rattle.pm_bill.proofs.ShareSums.{sum_each-more}
use Rattle.pm_bill.proofs.sums.sums_of_groups.Goals as goal

abbrev no_group : GroupSum
no_group = record { price = pos 0; power = pos 0 }

-- a sum and one number of 128 bits more, as the code computes it
abbrev more : ℤ → ℤ → ℤ
more sum number = sum +ℤ to_z w128 (of_z w128 number)

-- the limit of the cost of so many groups
abbrev cost_limit_to : ℕ → ℕ
cost_limit_to at = at * (price_limit * sum_limit)

-- the cost of one group more fits
cost_fits : (at many : ℕ) (sum price power cost : ℤ) → at < many → many ≤ most_nodes + 1 → IsWithin (cost_limit_to at) sum →
    Costs price power cost → SFits w128 (more sum cost)
cost_fits at many sum price power cost inside few within costs = omega (arith, ints, costs.computed, costs.within, within)

-- it is the sum, within the limit of one group more
cost_more : (at many : ℕ) (sum price power cost : ℤ) → at < many → many ≤ most_nodes + 1 → IsWithin (cost_limit_to at) sum →
    Costs price power cost → (to_z w128 (of_z w128 (more sum cost)) ≡ sum +ℤ (price *ℤ power))
    × IsWithin (cost_limit_to (at + 1)) (to_z w128 (of_z w128 (more sum cost)))
cost_more at many sum price power cost inside few within costs =
    let is : to_z w128 (of_z w128 (more sum cost)) ≡ sum +ℤ (price *ℤ power) = omega (arith, ints, costs.computed, costs.within, within) in
    (is, rw is (record { low = omega (arith, ints, costs.within, within); high = omega (arith, ints, costs.within, within) }))

-- the same of the power
power_fits : (at many : ℕ) (sum power from : ℤ) → at < many → many ≤ most_nodes + 1 → IsWithin (at * sum_limit) sum → IsWithin sum_limit power →
    from ≡ to_z w64 (of_z w64 power) → SFits w128 (more sum from)
power_fits at many sum power from inside few within small told = omega (arith, ints, told, small, within)

power_more : (at many : ℕ) (sum power from : ℤ) → at < many → many ≤ most_nodes + 1 → IsWithin (at * sum_limit) sum → IsWithin sum_limit power →
    from ≡ to_z w64 (of_z w64 power) →
    (to_z w128 (of_z w128 (more sum from)) ≡ sum +ℤ power) × IsWithin ((at + 1) * sum_limit) (to_z w128 (of_z w128 (more sum from)))
power_more at many sum power from inside few within small told =
    let is : to_z w128 (of_z w128 (more sum from)) ≡ sum +ℤ power = omega (arith, ints, told, small, within) in
    (is, rw is (record { low = omega (arith, ints, small, within); high = omega (arith, ints, small, within) }))

pub cost_of-cost-requires-clause-price : goal.cost_of-cost-requires-clause-price
cost_of-cost-requires-clause-price c =
    word_within price_limit _ (omega arith) (c.requires.prices c.loop-group.group-index no_group c.loop-group-test.true)

pub cost_of-cost-requires-clause-power : goal.cost_of-cost-requires-clause-power
cost_of-cost-requires-clause-power c =
    word_within sum_limit _ (omega arith) (c.requires.powers c.loop-group.group-index no_group c.loop-group-test.true)

pub overflow_add-cost : goal.overflow_add-cost
overflow_add-cost c =
    let group = get_or c.args.groups.now c.loop-group.group-index no_group in
    let inside = c.loop-group-test.true in
    let cost = computed_cost group.price group.power c.cost_of-cost.result
    (c.requires.prices _ no_group inside) (c.requires.powers _ no_group inside) c.cost_of-cost.ensures in
    cost_fits c.loop-group.group-index _ _ _ _ _ inside c.requires.few c.loop-group.invariant.cost_within cost

pub overflow_add-power : goal.overflow_add-power
overflow_add-power c =
    let inside = c.loop-group-test.true in
    power_fits c.loop-group.group-index _ _ _ _ inside c.requires.few c.loop-group.invariant.power_within (c.requires.powers _ no_group inside)
    c.from-power.ensures

pub loop-group-preserved : goal.loop-group-preserved
loop-group-preserved c =
    let groups = c.args.groups.now in
    let at = c.loop-group.group-index in
    let group = get_or groups at no_group in
    let inside = c.loop-group-test.true in
    let small = c.requires.powers at no_group inside in
    let costs = computed_cost group.price group.power c.cost_of-cost.result (c.requires.prices at no_group inside) small c.cost_of-cost.ensures in
    let cost = cost_more at _ _ _ _ _ inside c.requires.few c.loop-group.invariant.cost_within costs in
    let power = power_more at _ _ _ _ inside c.requires.few c.loop-group.invariant.power_within small c.from-power.ensures in
    record {
      cost = cost.0 ∙ ap (λ z. z +ℤ group_cost group) c.loop-group.invariant.cost ∙ sym (sum_each-more group_cost groups at no_group inside);
      power = power.0 ∙ ap (λ z. z +ℤ group.power) c.loop-group.invariant.power
          ∙ sym (sum_each-more (λ (g : GroupSum). g.power) groups at no_group inside);
      cost_within = cost.1;
      power_within = power.1;
    }

pub returns-clause-cost : goal.returns-clause-cost
returns-clause-cost c =
    c.loop-group.invariant.cost ∙ ap (sum_each group_cost) (take_all c.loop-group.group-index c.args.groups.now c.loop-group-test.false)

pub returns-clause-cost_within : goal.returns-clause-cost_within
returns-clause-cost_within c =
    let most : c.loop-group.group-index ≤ most_nodes + 1 = omega (arith, c.loop-group.auto.group-index-end, c.requires.few) in
    wider _ cost_limit _ (omega (arith, most)) c.loop-group.invariant.cost_within

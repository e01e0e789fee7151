-- Of `Account::add`: what it ensures; what the calls of `positive_part` and `over` require; that its numbers fit.
use Rattle.std.proofs.Common.{◌≡◌, ◌∙◌, ap, ◌*◌, ℤ, ◌+ℤ◌, arith, w64, to_z, of_z}
use Rattle.std.specs.Int.{w128}
use Rattle.std.proofs.lemmas.Int.{ints, to_z-of_z}
use mir.Val.{SFits}
use Rattle.pm_base.specs.Limits.{IsWithin, most_phases}
use Rattle.pm_bill.specs.Accounts.{positive_part, cost_limit, tick_limit}
use Rattle.pm_bill.proofs.AccountSums.{same_account}
use Rattle.pm_bill.proofs.Products.{same_product, opposite_fits, opposite_is, opposite_within}
use Rattle.pm_bill.proofs.account.Account.add.Goals as goal

-- an amount and one more, as the code computes it
abbrev sum_of : ℤ → ℤ → ℤ
sum_of old more = to_z w128 (of_z w128 old) +ℤ to_z w128 (of_z w128 more)

-- it fits, and is the sum
sum_fits : (old more : ℤ) → IsWithin (most_phases * tick_limit) old → IsWithin tick_limit more → SFits w128 (sum_of old more)
sum_fits old more within small = omega (arith, ints, within, small)

sum_is : (old more : ℤ) → IsWithin (most_phases * tick_limit) old → IsWithin tick_limit more → to_z w128 (of_z w128 (sum_of old more)) ≡ old +ℤ more
sum_is old more within small = omega (arith, ints, within, small)

-- a number of 128 bits within the limit stays the same
kept : (number : ℤ) → IsWithin cost_limit number → to_z w128 (of_z w128 number) ≡ number
kept number within = omega (arith, ints, within)

kept_small : (number : ℤ) → IsWithin cost_limit number → IsWithin cost_limit (to_z w128 (of_z w128 number))
kept_small number within = record { low = omega (arith, ints, within); high = omega (arith, ints, within) }

pub overflow_sub-power : goal.overflow_sub-power
overflow_sub-power c = opposite_fits c.args.power c.requires.power

pub positive_part-requires : goal.positive_part-requires
positive_part-requires c = kept_small c.args.power c.requires.power

pub positive_part-requires-2 : goal.positive_part-requires-2
positive_part-requires-2 c = opposite_within c.args.power c.requires.power

pub over-requires-2-clause-rate : goal.over-requires-2-clause-rate
over-requires-2-clause-rate c = kept_small _ c.positive_part.ensures.within

pub over-requires-3-clause-rate : goal.over-requires-3-clause-rate
over-requires-3-clause-rate c = kept_small _ c.positive_part-2.ensures.within

pub overflow_add-self-2 : goal.overflow_add-self-2
overflow_add-self-2 c = sum_fits _ _ c.requires.old.taken c.over-2.ensures.within

pub overflow_add-self-3 : goal.overflow_add-self-3
overflow_add-self-3 c = sum_fits _ _ c.requires.old.given c.over-3.ensures.within

pub returns : goal.returns
returns c =
    let old = c.args.self.now in
    let minutes = to_z-of_z w64 c.args.minutes c.ranges.minutes in
    same_account _ _
    (sum_is _ _ c.requires.old.amount c.over.ensures.within
    ∙ ap (λ z. old.amount +ℤ z) (c.over.ensures.product ∙ same_product (to_z-of_z w128 c.args.cost c.ranges.cost) minutes))
    (sum_is _ _ c.requires.old.taken c.over-2.ensures.within ∙ ap (λ z. old.taken +ℤ z) (c.over-2.ensures.product ∙ same_product
    (kept _ c.positive_part.ensures.within ∙ c.positive_part.ensures.part ∙ ap positive_part (to_z-of_z w128 c.args.power c.ranges.power)) minutes))
    (sum_is _ _ c.requires.old.given c.over-3.ensures.within ∙ ap (λ z. old.given +ℤ z) (c.over-3.ensures.product ∙ same_product
    (kept _ c.positive_part-2.ensures.within ∙ c.positive_part-2.ensures.part
    ∙ ap positive_part (opposite_is c.args.power c.requires.power)) minutes))

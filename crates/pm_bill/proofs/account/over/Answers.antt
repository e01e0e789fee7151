-- Of `over`: its clauses `product` and `within`; that its numbers fit.
use Rattle.std.proofs.Common.{◌≡◌, ◌∙◌, sym, ap, subst, ℤ, ◌*ℤ◌, FitsSigned, w64, to_z, of_z, arith}
use Rattle.std.specs.Int.{w128}
use Rattle.std.proofs.lemmas.Int.{ints, to_z-of_z}
use Rattle.pm_base.specs.Limits.{IsWithin}
use Rattle.pm_device.specs.Kinds.{minutes_limit}
use Rattle.pm_bill.specs.Accounts.{cost_limit, tick_limit}
use Rattle.pm_bill.proofs.Products.{product_within, same_product, minutes_within}
use Rattle.pm_bill.proofs.account.over.Goals as goal

tick_fits : (z : ℤ) → IsWithin tick_limit z → FitsSigned w128 z
tick_fits z within = omega (arith, ints)

minutes_fit : (minutes : ℤ) → IsWithin minutes_limit minutes → FitsSigned w128 minutes
minutes_fit minutes within = omega (arith, ints)

within_tick : (c : goal.After-from) → IsWithin tick_limit (c.args.rate *ℤ c.args.minutes)
within_tick c =
    product_within cost_limit minutes_limit c.args.rate c.args.minutes c.requires.rate (minutes_within c.args.minutes c.requires.minutes)

-- the two factors as the code has them
factors : (c : goal.After-from) →
    to_z w128 (of_z w128 c.args.rate) *ℤ to_z w128 (of_z w128 c.from.result) ≡ c.args.rate *ℤ c.args.minutes
factors c =
    let minutes : c.from.result ≡ c.args.minutes = c.from.ensures ∙ to_z-of_z w64 c.args.minutes c.ranges.minutes in
    let wide = minutes_fit c.args.minutes (minutes_within c.args.minutes c.requires.minutes) in
    same_product (to_z-of_z w128 c.args.rate c.ranges.rate)
    (ap (λ z. to_z w128 (of_z w128 z)) minutes ∙ to_z-of_z w128 c.args.minutes wide)

pub overflow_mul-result : goal.overflow_mul-result
overflow_mul-result c = subst (FitsSigned w128) (sym (factors c)) (tick_fits _ (within_tick c))

pub returns-clause-product : goal.returns-clause-product
returns-clause-product c = ap (λ z. to_z w128 (of_z w128 z)) (factors c) ∙ to_z-of_z w128 _ (tick_fits _ (within_tick c))

pub returns-clause-within : goal.returns-clause-within
returns-clause-within c =
    let product = ap (λ z. to_z w128 (of_z w128 z)) (factors c) ∙ to_z-of_z w128 _ (tick_fits _ (within_tick c)) in
    subst (IsWithin tick_limit) (sym product) (within_tick c)

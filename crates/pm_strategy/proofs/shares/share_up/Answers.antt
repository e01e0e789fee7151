-- Of `share_up`: what it ensures; that its numbers fit.
use Rattle.std.proofs.Common.{arith, ap, ◌∙◌, ◌≡◌, pos, neg_ℤ, w64, FitsSigned, ◌-ℤ◌, ◌*ℤ◌, ◌*◌, to_z}
use Rattle.std.proofs.lemmas.Int.{ints, to_z-of_z}
use Rattle.pm_base.specs.Limits.{demand_limit, IsWithin}
use Rattle.pm_device.specs.Ticks.{floor_div}
use Rattle.pm_strategy.specs.Steps.{last_limit}
use Rattle.pm_strategy.proofs.Rounded.{product_within, floor_div-within}
use Rattle.pm_strategy.proofs.shares.share_up.Goals as goal

pub overflow_mul-part : goal.overflow_mul-part
overflow_mul-part c =
    let small = product_within c.args.part c.args.last c.requires.part_not_negative c.requires.part_small c.requires.last_small in
    let last_is : to_z w64 c.args.last ≡ pos c.args.last = omega (arith, ints) in
    let product : FitsSigned w64 (c.args.part *ℤ pos c.args.last) = omega (arith, ints) in
    rw (last_is, to_z-of_z w64 c.args.part c.ranges.part) product

pub overflow_sub-part : goal.overflow_sub-part
overflow_sub-part c =
    let part = c.ranges.part in
    let small = product_within c.args.part c.args.last c.requires.part_not_negative c.requires.part_small c.requires.last_small in
    let last_is : to_z w64 c.args.last ≡ pos c.args.last = omega (arith, ints) in
    let product : FitsSigned w64 (c.args.part *ℤ pos c.args.last) = omega (arith, ints) in
    let negated : FitsSigned w64 (pos 0 -ℤ (c.args.part *ℤ pos c.args.last)) = omega (arith, ints) in
    simp (last_is, to_z-of_z) negated

-- the call gives the quotient of the whole numbers
quotient : (c : goal.After-div_euclid) → c.div_euclid.result ≡ floor_div (neg_ℤ (c.args.part *ℤ pos c.args.last)) c.args.whole
quotient c =
    let part = c.ranges.part in
    let whole = c.ranges.whole in
    let small = product_within c.args.part c.args.last c.requires.part_not_negative c.requires.part_small c.requires.last_small in
    let last_is : to_z w64 c.args.last ≡ pos c.args.last = omega (arith, ints) in
    let product : FitsSigned w64 (c.args.part *ℤ pos c.args.last) = omega (arith, ints) in
    let negated : FitsSigned w64 (pos 0 -ℤ (c.args.part *ℤ pos c.args.last)) = omega (arith, ints) in
    let minus : pos 0 -ℤ (c.args.part *ℤ pos c.args.last) ≡ neg_ℤ (c.args.part *ℤ pos c.args.last) = omega (arith, ints) in
    simp (last_is, to_z-of_z) at c.div_euclid.ensures ∙ ap (λ z. floor_div z c.args.whole) minus

within : (c : goal.After-div_euclid) → IsWithin (demand_limit * last_limit) (floor_div (neg_ℤ (c.args.part *ℤ pos c.args.last)) c.args.whole)
within c =
    let small = product_within c.args.part c.args.last c.requires.part_not_negative c.requires.part_small c.requires.last_small in
    floor_div-within (demand_limit * last_limit) (neg_ℤ (c.args.part *ℤ pos c.args.last)) c.args.whole
    (record { low = omega (arith, ints); high = omega (arith, ints) }) c.requires.whole_positive

pub overflow_sub-result : goal.overflow_sub-result
overflow_sub-result c =
    let is = quotient c in
    let small = within c in
    omega (arith, ints)

pub returns : goal.returns
returns c =
    let is = quotient c in
    let small = within c in
    record { step = omega (arith, ints) }

-- Of `share`: its clauses `step`, `small` and `not_negative`; what the call of `div_euclid` requires; that its numbers fit.
use Rattle.std.proofs.Common.{rules, ◌≡◌, ◌∙◌, ℕ, ℤ, pos, negsuc, ◌*ℤ◌, ◌≤ℤ◌, ◌<ℤ◌, ◌*◌}
use Rattle.std.proofs.Common.{w64, FitsSigned, to_z, of_z, arith}
use Rattle.std.proofs.lemmas.Int.{ints, to_z-of_z}
use Rattle.pm_base.specs.Limits.{demand_limit}
use Rattle.pm_device.specs.Ticks.{floor_div}
use Rattle.pm_strategy.specs.Steps.{last_limit}
use Rattle.pm_strategy.proofs.Rounded.{product_within, floor_div-within}
use Rattle.pm_strategy.proofs.shares.share.Goals as goal

pub overflow_mul-part : goal.overflow_mul-part
overflow_mul-part c =
    let small = product_within c.args.part c.args.last c.requires.part_not_negative c.requires.part_small c.requires.last_small in
    let last_is : to_z w64 c.args.last ≡ pos c.args.last = omega (arith, ints) in
    let product : FitsSigned w64 (c.args.part *ℤ pos c.args.last) = omega (arith, ints) in
    rw (last_is, to_z-of_z w64 c.args.part c.ranges.part) product

-- the call gives the quotient of the whole numbers
quotient : (c : goal.After-div_euclid) → c.div_euclid.result ≡ floor_div (c.args.part *ℤ pos c.args.last) c.args.whole
quotient c =
    let part = c.ranges.part in
    let whole = c.ranges.whole in
    let small = product_within c.args.part c.args.last c.requires.part_not_negative c.requires.part_small c.requires.last_small in
    let last_is : to_z w64 c.args.last ≡ pos c.args.last = omega (arith, ints) in
    let product : FitsSigned w64 (c.args.part *ℤ pos c.args.last) = omega (arith, ints) in
    simp (last_is, to_z-of_z) at c.div_euclid.ensures

pub returns-clause-step : goal.returns-clause-step
returns-clause-step c = to_z-of_z w64 c.div_euclid.result (search rules) ∙ quotient c

pub returns-clause-small : goal.returns-clause-small
returns-clause-small c =
    let is = quotient c in
    let within = floor_div-within (demand_limit * last_limit) (c.args.part *ℤ pos c.args.last) c.args.whole
    (product_within c.args.part c.args.last c.requires.part_not_negative c.requires.part_small c.requires.last_small) c.requires.whole_positive in
    omega (arith, ints)

pub overflow_cast-last : goal.overflow_cast-last
overflow_cast-last c = omega (arith, ints)

pub div_euclid-requires-clause-nonzero : goal.div_euclid-requires-clause-nonzero
div_euclid-requires-clause-nonzero c = omega (arith, ints)

pub div_euclid-requires-clause-no_overflow : goal.div_euclid-requires-clause-no_overflow
div_euclid-requires-clause-no_overflow c = λ e f. omega (arith, ints)

-- the quotient of a part that is not negative is not negative
quotient_from : (part whole : ℤ) (last : ℕ) → pos 0 ≤ℤ part → pos 0 <ℤ whole → pos 0 ≤ℤ floor_div (part *ℤ pos last) whole
quotient_from (pos n) (pos d) last part whole = omega (arith, ints)
quotient_from (negsuc n) d last part whole = absurd (omega (arith, ints))
quotient_from (pos n) (negsuc d) last part whole = absurd (omega (arith, ints))

pub returns-clause-not_negative : goal.returns-clause-not_negative
returns-clause-not_negative c =
    let is = quotient c in
    let from = quotient_from c.args.part c.args.whole c.args.last c.requires.part_not_negative c.requires.whole_positive in
    let kept : to_z w64 (of_z w64 c.div_euclid.result) ≡ c.div_euclid.result = to_z-of_z w64 c.div_euclid.result (search rules) in
    rw (kept, is) from

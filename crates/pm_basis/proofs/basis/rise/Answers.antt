-- Of `rise`: what it ensures; what the call of `nonzero_div` requires; that its numbers fit.
use Rattle.std.proofs.Common.{◌≡◌, ℤ, pos, ◌≤ℤ◌, ◌*ℤ◌, int_div, to_z, of_z, w64, FitsSigned, lit<, arith}
use Rattle.std.proofs.lemmas.Int.{ints, fits_signed_mul, to_z-of_z}
use Rattle.pm_base.specs.Limits.{most_steps}
use Rattle.pm_basis.proofs.Rises.{rise_from, rise_to}
use Rattle.pm_basis.proofs.basis.rise.Goals as goal

-- a number from 0 to the largest range fits 64 bits
range_fits : (z : ℤ) → pos 0 ≤ℤ z → z ≤ℤ pos 2000000000 → FitsSigned w64 z
range_fits z low high = omega (arith, ints)

-- the product of the step and the range fits 64 bits
product_fits : (c : goal.Start) → FitsSigned w64 (c.args.step *ℤ c.args.range)
product_fits c =
    fits_signed_mul w64 c.args.step c.args.range most_steps 2000000000 (omega (arith, ints)) (omega (arith, ints)) (lit< tt)

-- so does the quotient, which is at most the range
quotient_fits : (c : goal.Start) → FitsSigned w64 (int_div (c.args.step *ℤ c.args.range) c.args.last)
quotient_fits c =
    let r = c.requires in
    let last : pos 0 ≤ℤ c.args.last = omega (arith, ints) in
    let most = rise_to c.args.step c.args.last c.args.range last r.step_from r.step_to r.range_from in
    range_fits _ (rise_from c.args.step c.args.last c.args.range last r.step_from r.range_from) (omega (arith, ints, most))

-- the product as 64 bits is the product
product_kept : (c : goal.Start) →
    to_z w64 (of_z w64 (to_z w64 (of_z w64 c.args.step) *ℤ to_z w64 (of_z w64 c.args.range))) ≡ c.args.step *ℤ c.args.range
product_kept c =
    rw (to_z-of_z w64 c.args.step c.ranges.step, to_z-of_z w64 c.args.range c.ranges.range)
    (to_z-of_z w64 (c.args.step *ℤ c.args.range) (product_fits c))

pub overflow_mul-result : goal.overflow_mul-result
overflow_mul-result c = rw (to_z-of_z w64 c.args.step c.ranges.step, to_z-of_z w64 c.args.range c.ranges.range) (product_fits c)

pub nonzero_div-result : goal.nonzero_div-result
nonzero_div-result c = (omega (arith, ints), rw (product_kept c, to_z-of_z w64 c.args.last c.ranges.last) (quotient_fits c))

pub returns : goal.returns
returns c =
    rw (product_kept c, to_z-of_z w64 c.args.last c.ranges.last)
    (to_z-of_z w64 (int_div (c.args.step *ℤ c.args.range) c.args.last) (quotient_fits c))

-- Of `change_along`: its clauses `change`, `falls` and `stays`; that its numbers fit.
use Rattle.std.proofs.Common.{rules, ◌≡◌, ◌∙◌, ap, sym, subst, ℤ, pos, ◌≤◌, ◌≤ℤ◌, FitsSigned, w64, to_z, of_z, lit<, arith}
use Rattle.std.specs.Prelude.{◌*ℤ◌, unsigned_abs}
use Rattle.std.specs.Int.{int_div_euclid}
use Rattle.std.proofs.lemmas.Int.{ints, to_z-of_z, fits_signed_mul}
use Rattle.pm_points.proofs.Floors.{floor_falls, floor_stays}
use Rattle.pm_points.proofs.line.change_along.Goals as goal
use Rattle.pm_points.proofs.line.change_along.Goals.{After-div_euclid}

-- the product of the numbers as they are kept is that of the numbers
kept_product : (change run : ℤ) → FitsSigned w64 change → FitsSigned w64 run →
    to_z w64 (of_z w64 change) *ℤ to_z w64 (of_z w64 run) ≡ change *ℤ run
kept_product change run change_fits run_fits =
    ap (λ z. z *ℤ to_z w64 (of_z w64 run)) (to_z-of_z w64 change change_fits) ∙ ap (λ z. change *ℤ z) (to_z-of_z w64 run run_fits)

product_fits : (change run : ℤ) → unsigned_abs change ≤ 2000000000 → unsigned_abs run ≤ 2000000000 → FitsSigned w64 (change *ℤ run)
product_fits change run small_change small_run = fits_signed_mul w64 change run 2000000000 2000000000 small_change small_run (lit< tt)

-- the call gives the quotient of the whole numbers
quotient : (c : After-div_euclid) →
    to_z w64 (of_z w64 c.div_euclid.result) ≡ int_div_euclid (c.args.change *ℤ c.args.run) c.args.width
quotient c =
    let change = c.args.change in
    let run = c.args.run in
    let width = c.args.width in
    let fits : FitsSigned w64 (change *ℤ run) = product_fits change run (omega (arith, ints)) (omega (arith, ints)) in
    let result_fits : FitsSigned w64 c.div_euclid.result = search rules in
    to_z-of_z w64 c.div_euclid.result result_fits
    ∙ c.div_euclid.ensures
    ∙ ap (λ z. int_div_euclid (to_z w64 (of_z w64 z)) (to_z w64 (of_z w64 width))) (kept_product change run c.ranges.change c.ranges.run)
    ∙ ap (λ z. int_div_euclid z (to_z w64 (of_z w64 width))) (to_z-of_z w64 (change *ℤ run) fits)
    ∙ ap (λ z. int_div_euclid (change *ℤ run) z) (to_z-of_z w64 width c.ranges.width)

pub overflow_mul-change : goal.overflow_mul-change
overflow_mul-change c =
    let fits : FitsSigned w64 (c.args.change *ℤ c.args.run) =
    product_fits c.args.change c.args.run (omega (arith, ints)) (omega (arith, ints)) in
    subst (FitsSigned w64) (sym (kept_product c.args.change c.args.run c.ranges.change c.ranges.run)) fits

pub returns-clause-change : goal.returns-clause-change
returns-clause-change c = quotient c

pub returns-clause-falls : goal.returns-clause-falls
returns-clause-falls c =
    subst (λ (z : ℤ). z ≤ℤ pos 0) (sym (quotient c))
    (floor_falls c.args.change c.args.run c.args.width (omega (arith, ints)) (omega (arith, ints)) (omega (arith, ints)))

pub returns-clause-stays : goal.returns-clause-stays
returns-clause-stays c =
    subst (λ (z : ℤ). c.args.change ≤ℤ z) (sym (quotient c))
    (floor_stays c.args.change c.args.run c.args.width (omega (arith, ints)) (omega (arith, ints)) (omega (arith, ints)) (omega (arith, ints)))

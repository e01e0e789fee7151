-- Of `Basis::price`: its clauses `price`, `from_min` and `to_max`; that its numbers fit.
use Rattle.std.proofs.Common.{◌≡◌, ◌∙◌, sym, ap, subst, ◌<◌, ℤ, pos, ◌+ℤ◌, ◌≤ℤ◌, to_z, of_z, w64, arith}
use Rattle.std.specs.Prelude.{◌-ℤ◌, ◌*ℤ◌, int_div}
use Rattle.std.proofs.lemmas.Int.{ints}
use Rattle.pm_basis.specs.Prices.{BasisValue, price_at}
use Rattle.pm_basis.proofs.Rises.{rise_is, rise_from, rise_to}
use Rattle.pm_basis.proofs.basis.Basis.price.Goals as goal

abbrev range_of : goal.After-rise → ℤ
range_of c = c.self.inside.max -ℤ c.self.inside.min

abbrev last_of : goal.After-rise → ℤ
last_of c = pos c.self.inside.steps -ℤ pos 1

step_in : (c : goal.After-rise) → c.args.step < c.self.inside.steps
step_in c = omega (arith, ap (λ (v : BasisValue). v.steps) c.self.view_is)

rise_at : (c : goal.After-rise) → c.rise.result ≡ int_div (pos c.args.step *ℤ range_of c) (last_of c)
rise_at c = rise_is c.rise.result (to_z w64 c.args.step)
    (to_z w64 (of_z w64 (to_z w64 (of_z w64 c.self.inside.max) -ℤ to_z w64 (of_z w64 c.self.inside.min))))
    (to_z w64 (of_z w64 (to_z w64 c.self.inside.steps -ℤ pos 1)))
    (pos c.args.step) (range_of c) (last_of c) c.rise.ensures (omega (arith, ints, step_in c)) (omega (arith, ints)) (omega (arith, ints))

rise_positive : (c : goal.After-rise) → pos 0 ≤ℤ c.rise.result
rise_positive c =
    let inside = step_in c in
    subst (λ (z : ℤ). pos 0 ≤ℤ z) (sym (rise_at c))
    (rise_from (pos c.args.step) (last_of c) (range_of c) (omega (arith, ints)) (omega (arith, ints)) (omega (arith, ints)))

rise_within : (c : goal.After-rise) → c.rise.result ≤ℤ range_of c
rise_within c =
    let inside = step_in c in
    subst (λ (z : ℤ). z ≤ℤ range_of c) (sym (rise_at c))
    (rise_to (pos c.args.step) (last_of c) (range_of c) (omega (arith, ints)) (omega (arith, ints)) (omega (arith, ints)) (omega (arith, ints)))

sum_is : (c : goal.After-rise) → to_z w64 (of_z w64 (to_z w64 (of_z w64 c.self.inside.min) +ℤ to_z w64 (of_z w64 c.rise.result)))
    ≡ c.self.inside.min +ℤ c.rise.result
sum_is c = omega (arith, ints, rise_positive c, rise_within c)

pub overflow_add-result : goal.overflow_add-result
overflow_add-result c = omega (arith, ints, rise_positive c, rise_within c)

pub returns-clause-price : goal.returns-clause-price
returns-clause-price c = sum_is c ∙ ap (λ (z : ℤ). c.self.inside.min +ℤ z) (rise_at c)
    ∙ ap (λ (v : BasisValue). price_at v c.args.step) c.self.view_is

pub returns-clause-from_min : goal.returns-clause-from_min
returns-clause-from_min c = omega (arith, ints, rise_positive c, rise_within c, ap (λ (v : BasisValue). v.min) c.self.view_is)

pub returns-clause-to_max : goal.returns-clause-to_max
returns-clause-to_max c = omega (arith, ints, rise_positive c, rise_within c, ap (λ (v : BasisValue). v.max) c.self.view_is)

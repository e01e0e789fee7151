-- Of `demand_between`: its clause `demand`.
use Rattle.std.proofs.Common.{◌≡◌, ◌∙◌, ap, w64, to_z, of_z, ◌+ℤ◌, arith}
use Rattle.std.specs.Prelude.{◌-ℤ◌, ◌*ℤ◌}
use Rattle.std.specs.Int.{int_div_euclid}
use Rattle.std.proofs.lemmas.Int.{ints}
use Rattle.pm_points.proofs.Floors.{same_floor}
use Rattle.pm_points.proofs.line.demand_between.Goals as goal

pub returns-clause-demand : goal.returns-clause-demand
returns-clause-demand c =
    let change = c.args.to.1 -ℤ c.args.from.1 in
    let run = c.args.price -ℤ c.args.from.0 in
    let width = c.args.to.0 -ℤ c.args.from.0 in
    let is : c.change_along.result ≡ int_div_euclid (change *ℤ run) width =
    same_floor c.change_along.result
    (to_z w64 (of_z w64 (to_z w64 (of_z w64 c.args.to.1) -ℤ to_z w64 (of_z w64 c.args.from.1))))
    (to_z w64 (of_z w64 (to_z w64 (of_z w64 c.args.price) -ℤ to_z w64 (of_z w64 c.args.from.0))))
    (to_z w64 (of_z w64 (to_z w64 (of_z w64 c.args.to.0) -ℤ to_z w64 (of_z w64 c.args.from.0))))
    change run width c.change_along.ensures.change (omega (arith, ints)) (omega (arith, ints)) (omega (arith, ints)) in
    let sum : to_z w64 (of_z w64 (to_z w64 (of_z w64 c.args.from.1) +ℤ to_z w64 (of_z w64 c.change_along.result)))
    ≡ c.args.from.1 +ℤ c.change_along.result = omega (arith, ints, c.change_along.ensures.falls, c.change_along.ensures.stays) in
    sum ∙ ap (λ z. c.args.from.1 +ℤ z) is

-- Of `charge_after`: its clauses `after` and `fits`; what the call of `clamp` requires; that its numbers fit.
use Rattle.std.proofs.Common.{◌≡◌, arith, ℤ, w64, FitsSigned, ◌*ℤ◌, ◌+ℤ◌, ◌≤ℤ◌, neg_ℤ, pos, lit<, rules}
use Rattle.std.proofs.lemmas.Int.{ints, clamps, to_z-of_z, fits_signed_mul}
use Rattle.std.proofs.lemmas.Grind.{common_steps}
use Rattle.std.specs.Int.{int_div_euclid}
use Rattle.pm_device.specs.Kinds.{capacity_limit, power_limit, minutes_limit}
use Rattle.pm_device.proofs.Between.{Between, is_between-tells, is_between-holds}
use Rattle.pm_device.proofs.tick.charge_after.Goals as goal

-- the power times the minutes fits 64 bits
product_fits : (power minutes : ℤ) → neg_ℤ (pos power_limit) ≤ℤ power → power ≤ℤ pos power_limit → pos 1 ≤ℤ minutes →
    minutes ≤ℤ pos minutes_limit → FitsSigned w64 (power *ℤ minutes)
product_fits power minutes low high some day =
    fits_signed_mul w64 power minutes power_limit minutes_limit (omega (arith, ints)) (omega (arith, ints)) (lit< tt)

-- the charge and what a tick adds to it fit 64 bits together
sum_fits : (capacity stored product energy : ℤ) → Between (pos 1) (pos capacity_limit) capacity → Between (pos 0) capacity stored →
    FitsSigned w64 product → energy ≡ int_div_euclid product (pos 60) → FitsSigned w64 (stored +ℤ energy)
sum_fits capacity stored product energy within charged fits is = grind (arith, common_steps)

pub overflow_mul-power : goal.overflow_mul-power
overflow_mul-power c =
    let power_fits = c.ranges.power in
    let minutes_fits = c.ranges.minutes in
    let r = c.requires in
    simp to_z-of_z (product_fits c.args.power c.args.minutes r.power_low r.power_high r.at_least_one_minute r.at_most_a_day)

pub overflow_add-stored : goal.overflow_add-stored
overflow_add-stored c =
    let r = c.requires in
    let capacity = is_between-tells (pos 1) (pos capacity_limit) c.args.capacity r.capacity in
    let stored = is_between-tells (pos 0) c.args.capacity c.args.stored r.stored in
    let product = product_fits c.args.power c.args.minutes r.power_low r.power_high r.at_least_one_minute r.at_most_a_day in
    let power_fits = c.ranges.power in
    let minutes_fits = c.ranges.minutes in
    let stored_fits = c.ranges.stored in
    let energy = simp to_z-of_z at c.div_euclid-energy.ensures in
    let energy_fits : FitsSigned w64 c.div_euclid-energy.result = search rules in
    simp to_z-of_z (sum_fits c.args.capacity c.args.stored _ c.div_euclid-energy.result capacity stored product energy)

pub returns-clause-after : goal.returns-clause-after
returns-clause-after c =
    let r = c.requires in
    let capacity = is_between-tells (pos 1) (pos capacity_limit) c.args.capacity r.capacity in
    let stored = is_between-tells (pos 0) c.args.capacity c.args.stored r.stored in
    let product = product_fits c.args.power c.args.minutes r.power_low r.power_high r.at_least_one_minute r.at_most_a_day in
    let power_fits = c.ranges.power in
    let minutes_fits = c.ranges.minutes in
    let energy = simp to_z-of_z at c.div_euclid-energy.ensures in
    let sum = sum_fits c.args.capacity c.args.stored _ c.div_euclid-energy.result capacity stored product energy in
    omega (arith, ints, clamps)

pub returns-clause-fits : goal.returns-clause-fits
returns-clause-fits c =
    let fits : FitsSigned w64 c.clamp.result = search rules in
    simp to_z-of_z (is_between-holds (pos 0) c.args.capacity c.clamp.result (record { from = omega (arith, ints); to = omega (arith, ints) }))

pub clamp-requires : goal.clamp-requires
clamp-requires c =
    let capacity = is_between-tells (pos 1) (pos capacity_limit) c.args.capacity c.requires.capacity in
    omega (arith, ints, capacity.from)

-- Of `heated_after`: its clause `after`; that its numbers fit.
use Rattle.std.proofs.Common.{arith}
use Rattle.std.proofs.lemmas.Int.{ints, clamps, to_z-of_z}
use Rattle.pm_device.proofs.Between.{is_temperature-tells, is_change-tells}
use Rattle.pm_device.proofs.tick.heated_after.Goals as goal

pub returns-clause-after : goal.returns-clause-after
returns-clause-after c =
    let temperature = is_temperature-tells c.args.temperature c.requires.temperature in
    let loss = is_change-tells c.args.loss c.requires.loss in
    let fits = c.ranges.gain in
    let change = simp to_z-of_z at c.change_if.ensures.change in
    let small = is_change-tells c.change_if.result c.change_if.ensures.fits in
    omega (arith, ints, clamps)

pub overflow_add-temperature : goal.overflow_add-temperature
overflow_add-temperature c =
    let temperature = is_temperature-tells c.args.temperature c.requires.temperature in
    let loss = is_change-tells c.args.loss c.requires.loss in
    let small = is_change-tells c.change_if.result c.change_if.ensures.fits in
    omega (arith, ints)

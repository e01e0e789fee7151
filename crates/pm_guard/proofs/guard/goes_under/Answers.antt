-- Of `goes_under`: what it ensures where the power is below the least.
use Rattle.std.proofs.Common.{arith, ◌<ℤ◌, ◌+ℤ◌, ◌-ℤ◌, to_z, of_z, w64}
use Rattle.std.proofs.lemmas.Int.{ints}
use Rattle.pm_guard.proofs.Ends.{tests_both}
use Rattle.pm_guard.proofs.guard.goes_under.Goals as goal

pub returns-then-power-least : goal.returns-then-power-least
returns-then-power-least c =
    let less : c.args.power <ℤ c.args.least = omega (arith, ints, c.if-power-least.true) in
    tests_both c.args.power c.args.least (c.args.best +ℤ (c.args.power -ℤ c.args.least))
    c.args.floor
    (to_z w64 (of_z w64 ((to_z w64 (of_z w64 c.args.best)) +ℤ
    (to_z w64 (of_z w64 ((to_z w64 (of_z w64 c.args.power)) -ℤ (to_z w64 (of_z w64 c.args.least)))))))) (to_z w64 (of_z w64 c.args.floor))
    less (omega (arith, ints)) (omega (arith, ints))

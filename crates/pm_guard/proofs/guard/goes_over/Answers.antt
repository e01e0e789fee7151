-- Of `goes_over`: what it ensures where the power is above the most.
use Rattle.std.proofs.Common.{arith, ◌<ℤ◌, ◌+ℤ◌, ◌-ℤ◌, to_z, of_z, w64}
use Rattle.std.proofs.lemmas.Int.{ints}
use Rattle.pm_guard.proofs.Ends.{tests_both}
use Rattle.pm_guard.proofs.guard.goes_over.Goals as goal

pub returns-then-most-power : goal.returns-then-most-power
returns-then-most-power c =
    let less : c.args.most <ℤ c.args.power = omega (arith, ints, c.if-most-power.true) in
    tests_both c.args.most c.args.power c.args.ceiling
    (c.args.worst +ℤ (c.args.power -ℤ c.args.most))
    (to_z w64 (of_z w64 c.args.ceiling))
    (to_z w64 (of_z w64 ((to_z w64 (of_z w64 c.args.worst)) +ℤ
    (to_z w64 (of_z w64 ((to_z w64 (of_z w64 c.args.power)) -ℤ (to_z w64 (of_z w64 c.args.most))))))))
    less (omega (arith, ints)) (omega (arith, ints))

-- Of `around`: what it ensures.
use Rattle.std.proofs.Common.{arith, ◌≡◌, pos, neg_ℤ, ◌+ℤ◌, ◌-ℤ◌, w64, FitsSigned, to_z, of_z}
use Rattle.std.proofs.lemmas.Int.{ints, to_z-of_z}
use Rattle.pm_device.specs.Kinds.{spread_limit}
use Rattle.pm_device.proofs.Between.{is_power-tells, is_between-tells}
use Rattle.pm_strategy.proofs.LevelLaws.{around-levels}
use Rattle.pm_strategy.proofs.kinds.around.Goals as goal

pub returns : goal.returns
returns c = λ step.
    let delivered = is_power-tells c.args.discharge c.requires.discharge in
    let distance = is_between-tells (pos 0) (pos spread_limit) c.args.spread c.requires.spread in
    let middle = c.ranges.middle in
    let charge = c.ranges.charge in
    let spread = c.ranges.spread in
    let below : FitsSigned w64 (c.args.middle -ℤ c.args.spread) = omega (arith, ints) in
    let above : FitsSigned w64 (c.args.middle +ℤ c.args.spread) = omega (arith, ints) in
    let next : FitsSigned w64 ((c.args.middle +ℤ c.args.spread) +ℤ pos 1) = omega (arith, ints) in
    let third : to_z w64 (of_z w64 (pos 0 -ℤ to_z w64 (of_z w64 c.args.discharge))) ≡ neg_ℤ c.args.discharge = omega (arith, ints) in
    rw third (simp to_z-of_z (around-levels c.args.middle c.args.charge c.args.discharge c.args.spread step))

-- Of `is_thermal`: what it ensures.
use Rattle.std.proofs.lemmas.Int.{to_z-of_z}
use Rattle.pm_device.specs.Kinds.{is_band, is_power, are_changes}
use Rattle.pm_device.proofs.Between.{last_of_three}
use Rattle.pm_device.proofs.limits.is_thermal.Goals.{then-is_band, else-is_band}
use Rattle.pm_device.proofs.limits.is_thermal.Goals as goal

pub returns-then-is_power : goal.returns-then-is_power
returns-then-is_power c =
    let low = c.ranges.low in
    let high = c.ranges.high in
    let power = c.ranges.power in
    let drift = c.ranges.drift in
    let effect = c.ranges.effect in
    let band_is = simp to_z-of_z at c.is_band.ensures in
    let changes_are = simp to_z-of_z at c.are_changes.ensures in
    elim c.if-is_band.branch [
      | then-is_band w ↦
          let power_is = simp to_z-of_z at w.is_power.ensures in
          last_of_three (is_band c.args.low c.args.high) (is_power c.args.power) (are_changes c.args.drift c.args.effect)
          c.are_changes.result (cc) (cc) changes_are
      | else-is_band w ↦ cc
    ]

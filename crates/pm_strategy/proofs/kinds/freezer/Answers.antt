-- Of `freezer`: what it ensures; what the call of `up_to_share` requires; that its numbers fit.
use Rattle.std.proofs.Common.{arith, w64, FitsSigned, ◌-ℤ◌, to_z, of_z}
use Rattle.std.proofs.lemmas.Int.{ints, to_z-of_z}
use Rattle.pm_device.proofs.Between.{is_temperature-tells, is_band-tells}
use Rattle.pm_strategy.proofs.Kept.{PartOf, above_low}
use Rattle.pm_strategy.proofs.kinds.freezer.Goals as goal

pub returns-then-temperature-high : goal.returns-then-temperature-high
returns-then-temperature-high c = λ step.
    let high = c.ranges.high in
    let temperature = c.ranges.temperature in
    let power = c.ranges.power in
    rw (simp to_z-of_z at (c.flat.ensures step), simp to_z-of_z at c.if-temperature-high.true)

pub returns-then-temperature-low : goal.returns-then-temperature-low
returns-then-temperature-low c = λ step.
    let high = c.ranges.high in
    let low = c.ranges.low in
    let temperature = c.ranges.temperature in
    rw (c.flat-then-temperature-low.ensures step, simp to_z-of_z at c.if-temperature-high.false, simp to_z-of_z at c.if-temperature-low.true)

pub returns : goal.returns
returns c = λ step.
    let high = c.ranges.high in
    let low = c.ranges.low in
    let temperature = c.ranges.temperature in
    let power = c.ranges.power in
    let band = is_band-tells c.args.low c.args.high c.requires.band in
    let within = is_temperature-tells c.args.temperature c.requires.temperature in
    let part : FitsSigned w64 (c.args.temperature -ℤ c.args.low) = omega (arith, ints) in
    let whole : FitsSigned w64 (c.args.high -ℤ c.args.low) = omega (arith, ints) in
    rw (simp to_z-of_z at c.if-temperature-high.false, simp to_z-of_z at c.if-temperature-low.false) (simp to_z-of_z at (c.up_to_share.ensures step))

-- the part of the band that the temperature is above its low end
part : (c : goal.Else-temperature-low) → PartOf (to_z w64 (of_z w64 c.args.temperature) -ℤ to_z w64 (of_z w64 c.args.low))
    (to_z w64 (of_z w64 c.args.high) -ℤ to_z w64 (of_z w64 c.args.low))
part c = above_low c.args.low c.args.high c.args.temperature c.requires.band c.requires.temperature c.if-temperature-low.false

pub overflow_sub-temperature : goal.overflow_sub-temperature
overflow_sub-temperature c = (part c).part_fits

pub overflow_sub-high : goal.overflow_sub-high
overflow_sub-high c = (part c).whole_fits

pub up_to_share-requires-clause-part_not_negative : goal.up_to_share-requires-clause-part_not_negative
up_to_share-requires-clause-part_not_negative c = (part c).not_negative

pub up_to_share-requires-clause-part_small : goal.up_to_share-requires-clause-part_small
up_to_share-requires-clause-part_small c = (part c).small

pub up_to_share-requires-clause-whole_positive : goal.up_to_share-requires-clause-whole_positive
up_to_share-requires-clause-whole_positive c = (part c).positive

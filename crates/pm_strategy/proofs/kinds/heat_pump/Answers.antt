-- Of `heat_pump`: what it ensures; what the call of `up_to_share` requires; that its numbers fit.
use Rattle.std.proofs.Common.{arith, w64, FitsSigned, ◌-ℤ◌, to_z, of_z}
use Rattle.std.proofs.lemmas.Int.{ints, to_z-of_z}
use Rattle.pm_device.proofs.Between.{is_temperature-tells, is_band-tells}
use Rattle.pm_strategy.proofs.Kept.{PartOf, below_high}
use Rattle.pm_strategy.proofs.kinds.heat_pump.Goals as goal

pub returns-then-room-low : goal.returns-then-room-low
returns-then-room-low c = λ step.
    let low = c.ranges.low in
    let room = c.ranges.room in
    let power = c.ranges.power in
    rw (simp to_z-of_z at (c.flat.ensures step), simp to_z-of_z at c.if-room-low.true)

pub returns-then-room-high : goal.returns-then-room-high
returns-then-room-high c = λ step.
    let high = c.ranges.high in
    let low = c.ranges.low in
    let room = c.ranges.room in
    rw (c.flat-then-room-high.ensures step, simp to_z-of_z at c.if-room-low.false, simp to_z-of_z at c.if-room-high.true)

pub returns : goal.returns
returns c = λ step.
    let high = c.ranges.high in
    let low = c.ranges.low in
    let room = c.ranges.room in
    let power = c.ranges.power in
    let band = is_band-tells c.args.low c.args.high c.requires.band in
    let within = is_temperature-tells c.args.room c.requires.room in
    let part : FitsSigned w64 (c.args.high -ℤ c.args.room) = omega (arith, ints) in
    let whole : FitsSigned w64 (c.args.high -ℤ c.args.low) = omega (arith, ints) in
    rw (simp to_z-of_z at c.if-room-low.false, simp to_z-of_z at c.if-room-high.false) (simp to_z-of_z at (c.up_to_share.ensures step))

-- the part of the band that the room is below its high end
part : (c : goal.Else-room-high) → PartOf (to_z w64 (of_z w64 c.args.high) -ℤ to_z w64 (of_z w64 c.args.room))
    (to_z w64 (of_z w64 c.args.high) -ℤ to_z w64 (of_z w64 c.args.low))
part c = below_high c.args.low c.args.high c.args.room c.requires.band c.requires.room c.if-room-high.false

pub overflow_sub-high : goal.overflow_sub-high
overflow_sub-high c = (part c).part_fits

pub overflow_sub-high-2 : goal.overflow_sub-high-2
overflow_sub-high-2 c = (part c).whole_fits

pub up_to_share-requires-clause-part_not_negative : goal.up_to_share-requires-clause-part_not_negative
up_to_share-requires-clause-part_not_negative c = (part c).not_negative

pub up_to_share-requires-clause-part_small : goal.up_to_share-requires-clause-part_small
up_to_share-requires-clause-part_small c = (part c).small

pub up_to_share-requires-clause-whole_positive : goal.up_to_share-requires-clause-whole_positive
up_to_share-requires-clause-whole_positive c = (part c).positive

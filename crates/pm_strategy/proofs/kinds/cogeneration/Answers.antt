-- Of `cogeneration`: what it ensures; what the call of `from_share` requires; that its numbers fit.
use Rattle.std.proofs.Common.{arith, ap, ◌∙◌, ◌≡◌, pos, neg_ℤ, w64, FitsSigned, ◌-ℤ◌, to_z, of_z}
use Rattle.std.proofs.lemmas.Int.{ints, to_z-of_z}
use Rattle.pm_device.proofs.Between.{is_temperature-tells, is_band-tells, is_power-tells}
use Rattle.pm_strategy.specs.Steps.{share_up, from_on}
use Rattle.pm_strategy.proofs.Kept.{PartOf, above_low}
use Rattle.pm_strategy.proofs.kinds.cogeneration.Goals as goal

pub returns-then-buffer-low : goal.returns-then-buffer-low
returns-then-buffer-low c = λ step.
    let low = c.ranges.low in
    let buffer = c.ranges.buffer in
    let rated = is_power-tells c.args.power c.requires.power in
    let power : to_z w64 (of_z w64 (pos 0 -ℤ to_z w64 (of_z w64 c.args.power))) ≡ neg_ℤ c.args.power = omega (arith, ints) in
    rw (simp to_z-of_z at c.if-buffer-low.true) (c.flat.ensures step ∙ power)

pub returns-then-buffer-high : goal.returns-then-buffer-high
returns-then-buffer-high c = λ step.
    let high = c.ranges.high in
    let low = c.ranges.low in
    let buffer = c.ranges.buffer in
    rw (c.flat-then-buffer-high.ensures step, simp to_z-of_z at c.if-buffer-low.false, simp to_z-of_z at c.if-buffer-high.true)

pub overflow_sub-power-2 : goal.overflow_sub-power-2
overflow_sub-power-2 c =
    let rated = is_power-tells c.args.power c.requires.power in
    omega (arith, ints)

pub returns : goal.returns
returns c = λ step.
    let high = c.ranges.high in
    let low = c.ranges.low in
    let buffer = c.ranges.buffer in
    let band = is_band-tells c.args.low c.args.high c.requires.band in
    let within = is_temperature-tells c.args.buffer c.requires.buffer in
    let rated = is_power-tells c.args.power c.requires.power in
    let part : FitsSigned w64 (c.args.buffer -ℤ c.args.low) = omega (arith, ints) in
    let whole : FitsSigned w64 (c.args.high -ℤ c.args.low) = omega (arith, ints) in
    let power : to_z w64 (of_z w64 (pos 0 -ℤ to_z w64 (of_z w64 c.args.power))) ≡ neg_ℤ c.args.power = omega (arith, ints) in
    let start = share_up (c.args.buffer -ℤ c.args.low) (c.args.high -ℤ c.args.low) c.args.last in
    rw (simp to_z-of_z at c.if-buffer-low.false, simp to_z-of_z at c.if-buffer-high.false)
    (simp to_z-of_z at (c.from_share.ensures step) ∙ ap (λ z. from_on z start step) power)

-- the part of the band that the buffer is above its low end
part : (c : goal.Else-buffer-high) → PartOf (to_z w64 (of_z w64 c.args.buffer) -ℤ to_z w64 (of_z w64 c.args.low))
    (to_z w64 (of_z w64 c.args.high) -ℤ to_z w64 (of_z w64 c.args.low))
part c = above_low c.args.low c.args.high c.args.buffer c.requires.band c.requires.buffer c.if-buffer-low.false

pub overflow_sub-power : goal.overflow_sub-power
overflow_sub-power c =
    let rated = is_power-tells c.args.power c.requires.power in
    omega (arith, ints)

pub overflow_sub-buffer : goal.overflow_sub-buffer
overflow_sub-buffer c = (part c).part_fits

pub overflow_sub-high : goal.overflow_sub-high
overflow_sub-high c = (part c).whole_fits

pub from_share-requires-clause-part_not_negative : goal.from_share-requires-clause-part_not_negative
from_share-requires-clause-part_not_negative c = (part c).not_negative

pub from_share-requires-clause-part_small : goal.from_share-requires-clause-part_small
from_share-requires-clause-part_small c = (part c).small

pub from_share-requires-clause-whole_positive : goal.from_share-requires-clause-whole_positive
from_share-requires-clause-whole_positive c = (part c).positive

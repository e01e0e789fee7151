-- Of `battery`: what it ensures; what the calls of `around` and `share` require; that its numbers fit.
use Rattle.std.proofs.Common.{arith, ap, ◌∙◌, pos, w64, FitsSigned, ◌-ℤ◌, to_z, of_z, rules}
use Rattle.std.proofs.lemmas.Int.{ints, to_z-of_z}
use Rattle.pm_device.specs.Kinds.{spread_limit, power_limit}
use Rattle.pm_device.proofs.Between.{is_battery-tells, is_between-tells, is_between-holds}
use Rattle.pm_strategy.specs.Strategies.{around}
use Rattle.pm_strategy.proofs.Kept.{PartOf, room_left}
use Rattle.pm_strategy.proofs.kinds.battery.Goals as goal

pub around-requires-clause-discharge : goal.around-requires-clause-discharge
around-requires-clause-discharge c =
    let fits = c.ranges.discharge in
    let parameters = is_battery-tells c.args.capacity c.args.charge c.args.discharge c.args.spread c.requires.parameters in
    simp to_z-of_z (is_between-holds (pos 0) (pos power_limit) c.args.discharge parameters.discharge_within)

pub around-requires-clause-spread : goal.around-requires-clause-spread
around-requires-clause-spread c =
    let fits = c.ranges.spread in
    let parameters = is_battery-tells c.args.capacity c.args.charge c.args.discharge c.args.spread c.requires.parameters in
    simp to_z-of_z (is_between-holds (pos 0) (pos spread_limit) c.args.spread parameters.spread_within)

pub returns : goal.returns
returns c = λ step.
    let capacity = c.ranges.capacity in
    let charge = c.ranges.charge in
    let discharge = c.ranges.discharge in
    let spread = c.ranges.spread in
    let stored = c.ranges.stored in
    let middle : FitsSigned w64 c.share.result = search rules in
    let parameters = is_battery-tells c.args.capacity c.args.charge c.args.discharge c.args.spread c.requires.parameters in
    let charged = is_between-tells (pos 0) c.args.capacity c.args.stored c.requires.stored in
    let part : FitsSigned w64 (c.args.capacity -ℤ c.args.stored) = omega (arith, ints) in
    simp to_z-of_z at (c.around.ensures step)
    ∙ ap (λ z. around z c.args.charge c.args.discharge c.args.spread step) (simp to_z-of_z at c.share.ensures.step)

-- the part of the capacity that is left
part : (c : goal.Start) → PartOf (to_z w64 (of_z w64 c.args.capacity) -ℤ to_z w64 (of_z w64 c.args.stored)) c.args.capacity
part c =
    let parameters = is_battery-tells c.args.capacity c.args.charge c.args.discharge c.args.spread c.requires.parameters in
    rw (to_z-of_z w64 c.args.capacity c.ranges.capacity, to_z-of_z w64 c.args.stored c.ranges.stored)
    (room_left c.args.capacity c.args.stored parameters.capacity_within c.requires.stored)

pub overflow_sub-capacity : goal.overflow_sub-capacity
overflow_sub-capacity c = (part c).part_fits

pub share-requires-clause-part_not_negative : goal.share-requires-clause-part_not_negative
share-requires-clause-part_not_negative c = (part c).not_negative

pub share-requires-clause-part_small : goal.share-requires-clause-part_small
share-requires-clause-part_small c = (part c).small

pub share-requires-clause-whole_positive : goal.share-requires-clause-whole_positive
share-requires-clause-whole_positive c = (part c).positive

pub around-requires-clause-middle_not_negative : goal.around-requires-clause-middle_not_negative
around-requires-clause-middle_not_negative c = rw (to_z-of_z w64 c.share.result (search rules)) c.share.ensures.not_negative

pub around-requires-clause-middle_small : goal.around-requires-clause-middle_small
around-requires-clause-middle_small c = rw (to_z-of_z w64 c.share.result (search rules)) c.share.ensures.small

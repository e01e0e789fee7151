-- Of `announce`: its clauses `announced` and `steps`; what the call of `clamp_into` requires.
use Rattle.std.proofs.Common.{◌∙◌, ap, length, arith, rules, to_z, of_z}
use Rattle.std.proofs.lemmas.Int.{ints, to_z-of_z}
use Rattle.std.proofs.lemmas.List.{length-map}
use mir.Syntax.{w64}
use mir.Val.{SFits}
use Rattle.pm_bid.specs.Bids.{clamp}
use Rattle.pm_plan.specs.States.{state}
use Rattle.pm_plan.proofs.DeviceNodes.{limits_of-tells}
use Rattle.pm_walk.specs.Standing.{cut_made}
use Rattle.pm_walk.proofs.GroupTotals.{announced_is}
use Rattle.pm_walk.proofs.totals.announce.Goals as goal

pub clamp_into-requires-clause-floor_not_positive : goal.clamp_into-requires-clause-floor_not_positive
clamp_into-requires-clause-floor_not_positive c =
    let limits = c.requires.stands.sound.within.limits c.args.at.0 c.args.limits (limits_of-tells _ _ c.requires.limits) in
    omega (arith, ints, limits.floor_not_positive)

pub clamp_into-requires-clause-ceiling_not_negative : goal.clamp_into-requires-clause-ceiling_not_negative
clamp_into-requires-clause-ceiling_not_negative c =
    let limits = c.requires.stands.sound.within.limits c.args.at.0 c.args.limits (limits_of-tells _ _ c.requires.limits) in
    omega (arith, ints, limits.ceiling_not_negative)

pub clamp_into-requires-clause-floor_within : goal.clamp_into-requires-clause-floor_within
clamp_into-requires-clause-floor_within c =
    let limits = c.requires.stands.sound.within.limits c.args.at.0 c.args.limits (limits_of-tells _ _ c.requires.limits) in
    record { low = omega (arith, ints, limits.floor_within.low); high = omega (arith, ints, limits.floor_within.high) }

pub clamp_into-requires-clause-ceiling_within : goal.clamp_into-requires-clause-ceiling_within
clamp_into-requires-clause-ceiling_within c =
    let limits = c.requires.stands.sound.within.limits c.args.at.0 c.args.limits (limits_of-tells _ _ c.requires.limits) in
    record { low = omega (arith, ints, limits.ceiling_within.low); high = omega (arith, ints, limits.ceiling_within.high) }

pub returns-clause-announced : goal.returns-clause-announced
returns-clause-announced c =
    let low : SFits w64 c.args.limits.floor = search rules in
    let high : SFits w64 c.args.limits.ceiling = search rules in
    announced_is c.args.plan.now (state c.args.plan.now)
    (cut_made c.args.standing.now.progress) c.args.at.0 c.args.limits c.sum.result.now c.clamp_into.new.target c.requires.limits c.sum.ensures.sum
    (c.clamp_into.ensures.bid ∙ ap (λ z. clamp z (to_z w64 (of_z w64 c.args.limits.ceiling)) c.sum.result.now) (to_z-of_z w64 c.args.limits.floor low)
    ∙ ap (λ z. clamp c.args.limits.floor z c.sum.result.now) (to_z-of_z w64 c.args.limits.ceiling high))

pub returns-clause-steps : goal.returns-clause-steps
returns-clause-steps c = ap (λ l. length l) c.clamp_into.ensures.bid ∙ length-map c.sum.result.now _ ∙ c.sum.ensures.steps

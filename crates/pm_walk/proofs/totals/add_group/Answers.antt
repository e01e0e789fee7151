-- Of `add_group`: its clause `after`; what the calls of `add_into` and `announce` require.
use Rattle.std.proofs.Common.{◌∙◌, ◌-◌, ap, sym, subst, length}
use Rattle.pm_bid.specs.Bids.{AllWithinLimit}
use Rattle.pm_base.specs.Limits.{sum_limit}
use Rattle.pm_plan.specs.States.{state}
use Rattle.pm_walk.specs.Standing.{cut_made}
use Rattle.pm_walk.proofs.Standings.{standing_fits}
use Rattle.pm_walk.proofs.GroupTotals.{group_added, group_passed, total_to-steps, total_to-within}
use Rattle.pm_walk.proofs.totals.add_group.Goals as goal

pub add_into-requires-clause-equal_lengths : goal.add_into-requires-clause-equal_lengths
add_into-requires-clause-equal_lengths c =
    let fit = standing_fits c.args.plan.now c.args.standing.now c.requires.stands in
    ap (λ l. length l) c.requires.before ∙ total_to-steps c.args.plan.now (state c.args.plan.now)
    (cut_made c.args.standing.now.progress) (c.args.at.0 - 1) fit ∙ sym c.announce.ensures.steps

pub add_into-requires-clause-within : goal.add_into-requires-clause-within
add_into-requires-clause-within c =
    let fit = standing_fits c.args.plan.now c.args.standing.now c.requires.stands in
    subst (AllWithinLimit sum_limit)
    (sym (group_added c.args.plan.now (state c.args.plan.now)
    (cut_made c.args.standing.now.progress) c.args.at.0 c.in-Some.limits c.args.out.now c.announce.new.out fit c.requires.first
    (sym c.in-Some.ensures) c.requires.before c.announce.ensures.announced))
    (total_to-within c.args.plan.now (state c.args.plan.now) (cut_made c.args.standing.now.progress) c.args.at.0 c.requires.stands.sound fit)

pub returns-in-Some-clause-after : goal.returns-in-Some-clause-after
returns-in-Some-clause-after c =
    let fit = standing_fits c.args.plan.now c.args.standing.now c.requires.stands in
    c.add_into.ensures.sum
    ∙ group_added c.args.plan.now (state c.args.plan.now)
    (cut_made c.args.standing.now.progress) c.args.at.0 c.in-Some.limits c.args.out.now c.announce.new.out fit c.requires.first
    (sym c.in-Some.ensures) c.requires.before c.announce.ensures.announced

pub returns-in_default-clause-after : goal.returns-in_default-clause-after
returns-in_default-clause-after c = group_passed c.args.plan.now (state c.args.plan.now)
    (cut_made c.args.standing.now.progress) c.args.at.0 c.args.out.now c.requires.first (sym c.in_default.ensures) c.requires.before

pub announce-requires-clause-limits : goal.announce-requires-clause-limits
announce-requires-clause-limits c = sym c.in-Some.ensures

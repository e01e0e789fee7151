-- Of `Clearing::clear`: its clause `clearing`; what the calls of `fill_group_steps` and `fill_powers` require.
use Rattle.std.proofs.Common.{◌≡◌, ◌∙◌, ap, sym, subst, arith, length}
use Rattle.std.proofs.lemmas.List.{with_items_is}
use Rattle.pm_bid.specs.Clearing.{clearing_step}
use Rattle.pm_plan.specs.Auction.{plain_step}
use Rattle.pm_walk.specs.Standing.{cut_made}
use Rattle.pm_walk.specs.Clearing.{AreGroupSteps, ArePowers}
use Rattle.pm_walk.proofs.clearing.Clearing.clear.Goals as goal

pub fill_group_steps-requires-clause-step : goal.fill_group_steps-requires-clause-step
unfolding plain_step
fill_group_steps-requires-clause-step c = c.first_not_positive-step.ensures.step ∙ ap clearing_step c.fill_total.ensures.total

pub fill_group_steps-requires-clause-inside : goal.fill_group_steps-requires-clause-inside
fill_group_steps-requires-clause-inside c = omega (arith, c.first_not_positive-step.ensures.clears.inside, c.fill_total.ensures.steps)

pub fill_group_steps-requires-clause-one_each : goal.fill_group_steps-requires-clause-one_each
fill_group_steps-requires-clause-one_each c = ap (λ l. length l) c.deref_mut.ensures.value ∙ c.requires.room.group_steps

pub fill_powers-requires-clause-steps : goal.fill_powers-requires-clause-steps
fill_powers-requires-clause-steps c =
    let steps = c.args.self.now.group_steps in
    let many : length c.fill_group_steps.new.group_steps ≡ steps.len =
    omega (arith, c.fill_group_steps.ensures.one_each, c.requires.room.group_steps, steps.ok) in
    subst (AreGroupSteps c.args.plan.now (cut_made c.args.standing.now.progress))
    (sym (c.deref.ensures.value ∙ with_items_is steps c.fill_group_steps.new.group_steps many)) c.fill_group_steps.ensures

pub fill_powers-requires-clause-one_each : goal.fill_powers-requires-clause-one_each
fill_powers-requires-clause-one_each c = ap (λ l. length l) c.deref_mut-2.ensures.value ∙ c.requires.room.powers

pub returns-clause-clearing : goal.returns-clause-clearing
unfolding plain_step
returns-clause-clearing c =
    let plan = c.args.plan.now in
    let cut = cut_made c.args.standing.now.progress in
    let steps = c.args.self.now.group_steps in
    let powers = c.args.self.now.powers in
    let many_steps : length c.fill_group_steps.new.group_steps ≡ steps.len =
    omega (arith, c.fill_group_steps.ensures.one_each, c.requires.room.group_steps, steps.ok) in
    let many_powers : length c.fill_powers.new.powers ≡ powers.len = omega (arith, c.fill_powers.ensures.one_each, c.requires.room.powers, powers.ok) in
    record {
      total = c.fill_total.ensures.total;
      long = c.fill_total.ensures.steps;
      step = c.first_not_positive-step.ensures.step ∙ ap clearing_step c.fill_total.ensures.total;
      inside = omega (arith, c.first_not_positive-step.ensures.clears.inside, c.fill_total.ensures.steps);
      small = c.first_not_positive-step.ensures.small;
      group_steps = subst (AreGroupSteps plan cut) (sym (with_items_is steps c.fill_group_steps.new.group_steps many_steps)) c.fill_group_steps.ensures;
      powers = subst (ArePowers plan cut) (sym (with_items_is powers c.fill_powers.new.powers many_powers)) c.fill_powers.ensures;
    }

-- Of `take_to_end`: its clause `steps`; the turns of its loop.
use Rattle.std.proofs.Common.{◌∙◌}
use Rattle.pm_phase.proofs.StepsOn.{all_trans}
use Rattle.pm_phase.proofs.phase.take_to_end.Goals as goal

pub loop-preserved : goal.loop-preserved
loop-preserved g c = (
  c.take_round.ensures.links,
  c.take_round.ensures.numbers ∙ c.loop.invariant.1,
  all_trans c.args.phase.now.plan.now c.args.phase.now.changes.now c.args.nodes.now c.loop.nodes c.take_round.new.nodes c.loop.invariant.2
      c.take_round.ensures.steps,
)

pub returns-then-not-take_round-clause-steps : goal.returns-then-not-take_round-clause-steps
returns-then-not-take_round-clause-steps g c =
    all_trans c.args.phase.now.plan.now c.args.phase.now.changes.now c.args.nodes.now c.loop.nodes c.take_round.new.nodes c.loop.invariant.2
    c.take_round.ensures.steps

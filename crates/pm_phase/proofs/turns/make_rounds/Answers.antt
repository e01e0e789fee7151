-- Of `make_rounds`: its clause `steps`; the turns of its loop.
use Rattle.std.proofs.Common.{◌∙◌}
use Rattle.pm_phase.proofs.StepsOn.{all_trans}
use Rattle.pm_phase.proofs.turns.make_rounds.Goals as goal

pub loop-preserved-then-take_round : goal.loop-preserved-then-take_round
loop-preserved-then-take_round g c = (
  c.take_round.ensures.links,
  c.take_round.ensures.numbers ∙ c.loop.invariant.1,
  all_trans c.args.phase.now.plan.now c.args.phase.now.changes.now c.args.nodes.now c.loop.nodes c.take_round.new.nodes c.loop.invariant.2
      c.take_round.ensures.steps,
)

pub loop-preserved : goal.loop-preserved
loop-preserved g c = (
  c.take_round.ensures.links,
  c.take_round.ensures.numbers ∙ c.loop.invariant.1,
  all_trans c.args.phase.now.plan.now c.args.phase.now.changes.now c.args.nodes.now c.loop.nodes c.take_round.new.nodes c.loop.invariant.2
      c.take_round.ensures.steps,
)

pub returns-then-idle-ge-PATIENCE-clause-steps : goal.returns-then-idle-ge-PATIENCE-clause-steps
returns-then-idle-ge-PATIENCE-clause-steps g c =
    all_trans c.args.phase.now.plan.now c.args.phase.now.changes.now c.args.nodes.now c.loop.nodes c.take_round.new.nodes c.loop.invariant.2
    c.take_round.ensures.steps

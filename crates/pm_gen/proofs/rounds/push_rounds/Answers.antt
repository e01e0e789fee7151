-- Of `push_rounds`: what it ensures; what the call of `loop` requires.
use Rattle.std.proofs.Common.{◌∙◌, length, map}
use Rattle.pm_plan.specs.Parts.{phase_part}
use Rattle.pm_gen.proofs.Flags.{rounded-more, rounded-all}
use Rattle.pm_gen.proofs.rounds.push_rounds.Goals as goal

pub loop-preserved : goal.loop-preserved
loop-preserved c = record {
  size = c.in_ok-push_round.ensures.size ∙ c.loop.invariant.size;
  rounded = rounded-more (length c.args.members.now) (length c.loop.members) c.args.draws.now.seed
      (map phase_part c.args.phases.now.items) c.loop.counter c.loop.draws.seed c.push_round.new.draws.seed
      c.loop.members c.push_round.new.members (map phase_part c.loop.phases.items) (map phase_part c.push_round.new.phases.items)
      c.loop-test.true c.loop.invariant.size c.loop.invariant.rounded
      (record { phases = c.in_ok-push_round.ensures.phases; flags = c.in_ok-push_round.ensures.members }) c.in_ok-push_round.ensures.seed;
}

pub returns : goal.returns
returns c = rounded-all (length c.args.members.now) c.args.draws.now.seed (map phase_part c.args.phases.now.items) c.loop.counter
    c.loop.draws.seed c.loop.members (map phase_part c.loop.phases.items) c.loop-test.false c.loop.invariant.rounded

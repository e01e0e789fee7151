-- Of `learn`: what the call of `learn` requires.
use Rattle.std.specs.Option.{option_copied}
use Rattle.pm_cache.specs.Learning.{demand_of_offer}
use Rattle.pm_cache.proofs.SingleBids.{single_within}
use Rattle.test_parts.proofs.cache.learn.Goals as goal

pub learn-requires : goal.learn-requires
learn-requires c = record {
  bid = record {
    is_child = c.requires.child;
    equal_lengths = c.requires.steps;
    within = single_within c.args.cache.now c.args.child (demand_of_offer c.args.cache.now (option_copied c.args.bid))
        c.heads-heads.ensures.sound c.requires.child c.requires.single c.requires.steps c.requires.small;
  };
}

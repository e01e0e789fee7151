-- Of `learn`: what the call of `learn` requires.
use Rattle.std.proofs.Common.{◌∙◌, sym, subst}
use Rattle.pm_cache.specs.Cache.{Cache, IsCache}
use Rattle.pm_cache.proofs.SingleBids.{single_within}
use Rattle.test_parts.proofs.concentrator.learn.Goals as goal

pub learn-requires : goal.learn-requires
learn-requires c =
    let P : Cache → Type 0 = λ cache. IsCache cache in
    let sound : IsCache c.args.c.now.cache = subst P c.cache.ensures.cache c.heads-heads.ensures.sound in
    record {
      bid = record {
        is_child = c.requires.child;
        equal_lengths = c.requires.bid_steps ∙ sym c.requires.steps;
        within = single_within c.args.c.now.cache c.args.child c.args.bid.now sound c.requires.child c.requires.single
            (c.requires.bid_steps ∙ sym c.requires.steps) c.requires.small;
      };
    }

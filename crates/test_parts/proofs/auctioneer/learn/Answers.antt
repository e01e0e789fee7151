-- Of `learn`: what the call of `learn` requires.
use Rattle.std.proofs.Common.{◌∙◌, sym, subst, arith}
use Rattle.pm_cache.specs.Cache.{Cache, IsCache}
use Rattle.pm_cache.proofs.SingleBids.{single_within}
use Rattle.test_parts.proofs.auctioneer.learn.Goals as goal

pub learn-requires : goal.learn-requires
learn-requires c =
    let P : Cache → Type 0 = λ cache. IsCache cache in
    let sound : IsCache c.args.auctioneer.now.cache = subst P c.cache.ensures.cache c.heads-heads.ensures.sound in
    record {
      bid = record {
        is_child = omega (arith, c.requires.child);
        equal_lengths = c.requires.bid_steps ∙ sym c.requires.steps;
        within = single_within c.args.auctioneer.now.cache 0 c.args.bid.now sound (omega (arith, c.requires.child)) c.requires.single
            (c.requires.bid_steps ∙ sym c.requires.steps) c.requires.small;
      };
    }

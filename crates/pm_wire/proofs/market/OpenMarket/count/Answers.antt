-- Of `OpenMarket::count`: what the call of `learn` requires.
use Rattle.std.proofs.Common.{◌≡◌, ◌-◌, ap, sym, subst, arith}
use Rattle.std.specs.Option.{option_copied}
use Rattle.pm_cache.specs.Cache.{Cache}
use Rattle.pm_cache.specs.Learning.{CanLearn, demand_of_offer}
use Rattle.pm_cache.proofs.SingleBids.{single_within}
use Rattle.pm_wire.specs.Answers.{OpenMarket}
use Rattle.pm_wire.proofs.market.OpenMarket.count.Goals as goal

pub learn-requires : goal.learn-requires
learn-requires c =
    let cache = c.args.self.now.cache in
    let can : CanLearn cache (c.from-entry.result - 1) (option_copied c.args.demand) = record {
      is_child = omega arith;
      equal_lengths = c.requires.steps;
      within = single_within cache _ (demand_of_offer cache (option_copied c.args.demand)) c.requires.sound.sound (omega arith)
          c.requires.sound.single c.requires.steps c.requires.small;
    } in
    let same : c.self.inside.auctioneer.cache ≡ cache = ap (λ (m : OpenMarket). m.cache) c.self.view_is in
    record { bid = subst (λ (k : Cache). CanLearn k (c.from-entry.result - 1) (option_copied c.args.demand)) (sym same) can }

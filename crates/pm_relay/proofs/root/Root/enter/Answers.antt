-- Of `Root::enter`: what the call of `learn` requires; what the type keeps.
use Rattle.std.proofs.Common.{◌≡◌, ◌∙◌, sym, ap, subst, ◌<◌, length, arith}
use Rattle.std.specs.Option.{option_copied}
use Rattle.pm_base.specs.Limits.{demand_limit}
use Rattle.pm_bid.specs.Bids.{AllWithinLimit}
use Rattle.pm_cache.specs.Cache.{Cache, IsCache}
use Rattle.pm_cache.specs.Learning.{demand_of_offer, HasSingleBids}
use Rattle.pm_auctioneer.specs.Auctions.{Auction}
use Rattle.pm_relay.specs.Roots.{RootValue}
use Rattle.pm_relay.proofs.Learnt.{learnt_keeps}
use Rattle.pm_relay.proofs.Small.{single_learnt}
use Rattle.pm_relay.proofs.root.Root.enter.Goals as goal

pub learn-requires : goal.learn-requires
learn-requires c =
    let cache = c.self.inside.auctioneer.cache in
    let demand = option_copied c.args.demand in
    let same : c.args.self.now.auction.cache ≡ cache = sym (ap (λ (r : RootValue). r.auction.cache) c.self.view_is) in
    record {
      bid = single_learnt cache c.args.child demand (subst IsCache c.cache.ensures.cache c.heads-heads.ensures.sound)
          (omega (arith, c.self.invariant.children, c.requires.child)) c.self.invariant.single
          (subst (λ (k : Cache). length (demand_of_offer k demand) ≡ k.steps) same c.requires.steps)
          (subst (λ (k : Cache). AllWithinLimit demand_limit (demand_of_offer k demand)) same c.requires.small);
    }

pub invariant_of-self : goal.invariant_of-self
invariant_of-self c =
    let cache = c.self.inside.auctioneer.cache in
    let demand = option_copied c.args.demand in
    let same : c.args.self.now.auction.cache ≡ cache = sym (ap (λ (r : RootValue). r.auction.cache) c.self.view_is) in
    let keeps = learnt_keeps cache c.args.child c.args.number demand c.self.invariant.single
    (subst (λ (k : Cache). AllWithinLimit demand_limit (demand_of_offer k demand)) same c.requires.small) in
    record {
      children = ap (λ (a : Auction). length a.cache.heads) c.learn.ensures.learnt ∙ keeps.children ∙ c.self.invariant.children;
      same_children = c.self.invariant.same_children;
      single = subst (λ (a : Auction). HasSingleBids a.cache) (sym c.learn.ensures.learnt) keeps.single;
      numbers = omega (arith, ap (λ (a : Auction). a.index) c.learn.ensures.learnt, c.self.invariant.numbers);
    }

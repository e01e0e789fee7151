-- Of `Relay::enter`: what the call of `learn` requires; what the type keeps.
use Rattle.std.proofs.Common.{◌≡◌, sym, ap, subst, length, arith}
use Rattle.std.specs.Option.{option_copied}
use Rattle.pm_base.specs.Limits.{demand_limit}
use Rattle.pm_bid.specs.Bids.{AllWithinLimit}
use Rattle.pm_cache.specs.Cache.{Cache, IsCache}
use Rattle.pm_cache.specs.Learning.{demand_of_offer}
use Rattle.pm_relay.specs.Relays.{RelayValue}
use Rattle.pm_relay.proofs.Learnt.{relay_learnt}
use Rattle.pm_relay.proofs.Small.{single_learnt}
use Rattle.pm_relay.proofs.relay.Relay.enter.Goals as goal

pub learn-requires : goal.learn-requires
learn-requires c =
    let cache = c.self.inside.concentrator.cache in
    let demand = option_copied c.args.demand in
    let same : c.args.self.now.gathered.cache ≡ cache = sym (ap (λ (r : RelayValue). r.gathered.cache) c.self.view_is) in
    record {
      bid = single_learnt cache c.args.child demand (subst IsCache c.cache.ensures.cache c.heads-heads.ensures.sound)
          (omega (arith, c.self.invariant.children, c.requires.child)) c.self.invariant.single
          (subst (λ (k : Cache). length (demand_of_offer k demand) ≡ k.steps) same c.requires.steps)
          (subst (λ (k : Cache). AllWithinLimit demand_limit (demand_of_offer k demand)) same c.requires.small);
    }

pub invariant_of-self : goal.invariant_of-self
invariant_of-self c =
    let cache = c.self.inside.concentrator.cache in
    let demand = option_copied c.args.demand in
    let same : c.args.self.now.gathered.cache ≡ cache = sym (ap (λ (r : RelayValue). r.gathered.cache) c.self.view_is) in
    relay_learnt _ c.args.child c.args.number demand c.learn.new.self c.self.invariant
    (subst (λ (k : Cache). AllWithinLimit demand_limit (demand_of_offer k demand)) same c.requires.small) c.learn.ensures.learnt

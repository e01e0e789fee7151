-- Of `learn`: what it ensures; what the call of `exchange_bid` requires.
use Rattle.std.proofs.Common.{ap, subst, ◌∙◌, ◌≡◌}
use Rattle.std.proofs.Common.{get_or, None, Some}
use Rattle.pm_cache.specs.Cache.{Cache}
use Rattle.pm_cluster.proofs.parts.learn.Goals.{In-Some}
use Rattle.pm_cache.specs.Learning.{CanLearn, bid_demand}
use Rattle.pm_concentrator.specs.Concentrators.{Gathered}
use Rattle.pm_stands.proofs.Caches.{cache_root, cache_inner, gathered_known, learnt_root, learnt_inner}
use Rattle.pm_cluster.proofs.Rows.{there_read}
use Rattle.pm_cluster.proofs.parts.learn.Goals as goal

found : (c : In-Some) → get_or c.args.concentrators.now.items c.args.parent None ≡ Some c.in-Some.concentrator
found c =
    there_read c.args.concentrators.now.items c.args.parent c.index_mut.result.now c.in-Some.concentrator
    c.requires.parent.parent c.index_mut.ensures.value c.in-Some.is

pub exchange_bid-requires : goal.exchange_bid-requires
exchange_bid-requires c = record {
  bid = subst (λ (cache : Cache). CanLearn cache c.args.place (bid_demand c.args.head.gone c.args.demand.now))
      (cache_root _ _ _ c.if-parent-eq0.true) c.requires.may.can;
}

pub exchange_bid-requires-in-Some : goal.exchange_bid-requires-in-Some
exchange_bid-requires-in-Some c = record {
  bid = subst (λ (cache : Cache). CanLearn cache c.args.place (bid_demand c.args.head.gone c.args.demand.now))
      (cache_inner c.args.auctioneer.now c.args.concentrators.now.items c.args.parent c.if-parent-eq0.false
      ∙ ap (λ (x : Gathered). x.cache) (gathered_known c.args.concentrators.now.items c.args.parent c.in-Some.concentrator
      (found (goal.at.exchange_bid-requires-in-Some c).In-Some)))
      c.requires.may.can;
}

pub returns-then-parent-eq0-clause-learnt : goal.returns-then-parent-eq0-clause-learnt
returns-then-parent-eq0-clause-learnt c = learnt_root _ _ _ _ _ _ _ c.if-parent-eq0.true c.requires.may.newer c.exchange_bid.ensures.learnt

pub returns-clause-learnt : goal.returns-clause-learnt
returns-clause-learnt c =
    learnt_inner c.args.auctioneer.now c.args.concentrators.now.items c.in-Some.concentrator _ c.args.parent c.args.place c.args.head.number
    (bid_demand c.args.head.gone c.args.demand.now) c.if-parent-eq0.false c.requires.parent.parent (found (goal.at.returns-clause-learnt c).In-Some)
    c.requires.may.newer c.exchange_bid-in-Some.ensures.learnt

-- Of `BidCache::exchange_bid`: its clause `learnt`; what the call of `exchange` requires; what the type keeps.
use Rattle.std.proofs.Common.{◌∙◌, sym}
use Rattle.pm_cache.specs.CacheFields.{cache_of}
use Rattle.pm_cache.proofs.Entries.{replace_within, replace_enters, resized, newer_read}
use Rattle.pm_cache.proofs.cache.BidCache.exchange_bid.Goals as goal

pub exchange-requires-clause-within : goal.exchange-requires-clause-within
exchange-requires-clause-within g c =
    let can = rw c.if-gone.false at c.requires.bid in
    replace_within (cache_of c.self.inside) _ _ _ _ _ c.self.view_is can.is_child can.equal_lengths can.within
    c.self.invariant.sound c.self.invariant.aggregate c.index_mut-old.ensures.value

pub invariant_of-self : goal.invariant_of-self
invariant_of-self g c =
    let can = rw c.if-gone.false at c.requires.bid in
    let entry = replace_enters (cache_of c.self.inside) _ _ _ _ _ _ c.args.head.number c.self.view_is can.is_child can.equal_lengths
    c.self.invariant.sound c.self.invariant.aggregate c.index_mut-old.ensures.value c.exchange.ensures.exchanged in
    rw c.swap.ensures.x_after (record { aggregate = entry.sum; sound = entry.sound })

pub returns-clause-learnt : goal.returns-clause-learnt
returns-clause-learnt g c =
    let can = rw c.if-gone.false at c.requires.bid in
    let entry = replace_enters (cache_of c.self.inside) _ _ _ _ _ _ c.args.head.number c.self.view_is can.is_child can.equal_lengths
    c.self.invariant.sound c.self.invariant.aggregate c.index_mut-old.ensures.value c.exchange.ensures.exchanged in
    let newer = newer_read (cache_of c.self.inside) _ _ _ _ _ c.self.view_is can.is_child c.index.ensures
    (sym c.check_newer.ensures ∙ c.in_ok-check_newer.was) in
    rw (newer, c.if-gone.false, c.swap.ensures.x_after, ← c.self.view_is) (resized _ _ _ _ entry.steps)

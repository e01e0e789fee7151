-- Of `BidCache::remove`: its clause `removed`; what the call of `take_from` requires; what the type keeps.
use Rattle.pm_cache.specs.CacheFields.{cache_of}
use Rattle.pm_cache.proofs.Entries.{remove_within, remove_enters, cleared, resized}
use Rattle.pm_cache.proofs.cache.BidCache.remove.Goals as goal

pub take_from-requires-clause-within : goal.take_from-requires-clause-within
take_from-requires-clause-within g c =
    remove_within (cache_of c.self.inside) _ _ _ _ c.self.view_is c.requires.child c.requires.within c.self.invariant.sound
    c.self.invariant.aggregate c.index_mut-old.ensures.value

pub invariant_of-self : goal.invariant_of-self
invariant_of-self g c =
    let none = cleared (cache_of c.self.inside) _ _ _ _ c.self.view_is c.requires.child c.self.invariant.sound
    c.index_mut-old.ensures.value c.set_zero.ensures.bid in
    let entry = remove_enters (cache_of c.self.inside) _ _ _ _ _ c.args.number c.self.view_is c.requires.child c.self.invariant.sound
    c.self.invariant.aggregate c.index_mut-old.ensures.value c.take_from.ensures.rest in
    rw none (record { aggregate = entry.sum; sound = entry.sound })

pub returns-clause-removed : goal.returns-clause-removed
returns-clause-removed g c =
    let none = cleared (cache_of c.self.inside) _ _ _ _ c.self.view_is c.requires.child c.self.invariant.sound
    c.index_mut-old.ensures.value c.set_zero.ensures.bid in
    let entry = remove_enters (cache_of c.self.inside) _ _ _ _ _ c.args.number c.self.view_is c.requires.child c.self.invariant.sound
    c.self.invariant.aggregate c.index_mut-old.ensures.value c.take_from.ensures.rest in
    rw (none, ← c.self.view_is) (resized _ _ _ _ entry.steps)

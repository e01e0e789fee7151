-- Of `BidCache::replace`: its clauses `replaced` and `cost`; what the call of `exchange` requires; what the type keeps.
use Rattle.std.proofs.Common.{rules}
use Rattle.pm_cache.specs.CacheFields.{cache_of}
use Rattle.pm_cache.proofs.Entries.{replace_within, replace_enters, resized}
use Rattle.pm_cache.proofs.cache.BidCache.replace.Goals as goal

pub exchange-requires-clause-within : goal.exchange-requires-clause-within
exchange-requires-clause-within g c =
    replace_within (cache_of c.self.inside) _ _ _ _ _ c.self.view_is c.requires.child c.requires.equal_lengths c.requires.within
    c.self.invariant.sound c.self.invariant.aggregate c.index_mut-old.ensures.value

pub invariant_of-self : goal.invariant_of-self
invariant_of-self g c =
    let entry = replace_enters (cache_of c.self.inside) _ _ _ _ _ _ c.args.number c.self.view_is c.requires.child
    c.requires.equal_lengths c.self.invariant.sound c.self.invariant.aggregate c.index_mut-old.ensures.value c.exchange.ensures.exchanged in
    rw c.copy_into.ensures.bid (record { aggregate = entry.sum; sound = entry.sound })

pub returns-clause-replaced : goal.returns-clause-replaced
returns-clause-replaced g c =
    let entry = replace_enters (cache_of c.self.inside) _ _ _ _ _ _ c.args.number c.self.view_is c.requires.child
    c.requires.equal_lengths c.self.invariant.sound c.self.invariant.aggregate c.index_mut-old.ensures.value c.exchange.ensures.exchanged in
    rw (c.copy_into.ensures.bid, ← c.self.view_is) (resized _ _ _ _ entry.steps)

pub returns-clause-cost : goal.returns-clause-cost
returns-clause-cost g c = search rules

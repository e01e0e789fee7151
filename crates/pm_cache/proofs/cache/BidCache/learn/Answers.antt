-- Of `BidCache::learn`: its clauses `answer` and `learnt`.
use Rattle.std.proofs.Common.{rules}
use Rattle.pm_cache.proofs.cache.BidCache.learn.Goals as goal

pub returns-in-None-clause-answer : goal.returns-in-None-clause-answer
returns-in-None-clause-answer g c = search rules

pub returns-in-None-clause-learnt : goal.returns-in-None-clause-learnt
returns-in-None-clause-learnt g c = search rules

-- Of `BidCache::demand`: its clause `demand`.
use Rattle.std.proofs.Common.{arith}
use Rattle.std.proofs.lemmas.Grind.{common_steps}
use Rattle.pm_cache.proofs.cache.BidCache.demand.Goals as goal

pub returns-clause-demand : goal.returns-clause-demand
returns-clause-demand g c = grind (arith, common_steps)

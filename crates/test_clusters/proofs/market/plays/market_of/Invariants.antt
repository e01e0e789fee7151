-- Of `market_of`: what its loop over `node` keeps.
use Rattle.std.proofs.Common.{◌≡◌, vec_len}
use Rattle.test_clusters.proofs.market.plays.market_of.Given as goal

abbrev pub invariant-loop-node : goal.invariant-loop-node
invariant-loop-node g l = vec_len l.leaves ≡ vec_len l.parents

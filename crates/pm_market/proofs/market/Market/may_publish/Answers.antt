-- Of `Market::may_publish`: what it ensures.
use Rattle.std.proofs.Common.{arith}
use Rattle.pm_market.specs.Legality.{publish_is_legal}
use Rattle.pm_market.specs.Market.{market_lists, market_state}
use Rattle.pm_market.proofs.Loops.{newest_part}
use Rattle.pm_market.proofs.market.Market.may_publish.Goals as goal

pub returns-then-not-knows_same : goal.returns-then-not-knows_same
unfolding publish_is_legal
returns-then-not-knows_same c =
    let newest = newest_part (market_lists c.args.self.now) (market_state c.args.self.now) c.args.node in
    grind (arith, newest)

pub returns-else-not-knows_same : goal.returns-else-not-knows_same
unfolding publish_is_legal
returns-else-not-knows_same c =
    let newest = newest_part (market_lists c.args.self.now) (market_state c.args.self.now) c.args.node in
    grind (arith, newest)

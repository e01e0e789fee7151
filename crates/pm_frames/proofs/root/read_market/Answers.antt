-- Of `read_market`: what it ensures.
use Rattle.pm_frames.proofs.ReadNodes.{market_refused, nothing_read}
use Rattle.pm_frames.proofs.root.read_market.Goals as goal

pub returns-in-None-clause-one : goal.returns-in-None-clause-one
returns-in-None-clause-one g c = market_refused _ _ (nothing_read _ _ _ _ _ c.bid_place.ensures c.in-None.is c.in_ok-frame.ensures.one)

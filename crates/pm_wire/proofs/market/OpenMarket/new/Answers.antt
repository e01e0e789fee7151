-- Of `OpenMarket::new`: its clauses `new` and `sound`.
use Rattle.std.proofs.Common.{ap, refl}
use Rattle.pm_auctioneer.specs.Auctions.{Auction}
use Rattle.pm_wire.proofs.Markets.{open_market_is, opened_sound}
use Rattle.pm_wire.proofs.market.OpenMarket.new.Goals as goal

pub returns-clause-new : goal.returns-clause-new
returns-clause-new c = open_market_is _ _ c.in_ok-auctioneer.ensures.new

pub returns-clause-sound : goal.returns-clause-sound
returns-clause-sound c =
    opened_sound _ c.args.steps _ _ _ refl c.requires (ap (λ (a : Auction). a.cache) c.in_ok-auctioneer.ensures.new)

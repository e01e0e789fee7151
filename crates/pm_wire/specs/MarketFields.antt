-- What the fields of a market stand for.
use Rattle.pm_auctioneer.specs.Auctions.{Auction}
use Rattle.pm_wire.specs.Answers.{OpenMarket}

-- what an auctioneer knows, but for the step of its last clearing
abbrev pub market_of : Auction → OpenMarket
market_of auction = record { cache = auction.cache; index = auction.index; changed = auction.changed }

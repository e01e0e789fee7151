-- What the fields of an auctioneer stand for.
use Rattle.std.specs.Prelude.{◌<◌}
use Rattle.pm_auctioneer.specs.Auctions.{Auction}
use Rattle.pm_auctioneer.specs.declared.auctioneer.Auctioneer.TheInside.{Inside}

abbrev pub auction_of : Inside → Auction
auction_of inside = record { cache = inside.cache; step = inside.step; index = inside.index; changed = inside.changed }

-- what the fields keep: the step of the last clearing is one of the basis, also before the first clearing
pub record AreAuctioneerFields (inside : Inside) : Type 0 where
  pub step_of_basis : inside.step < inside.cache.steps

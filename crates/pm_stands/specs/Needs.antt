-- What the code needs in order to make a move.
use Rattle.std.specs.Prelude.{◌≡◌, ℕ, ◌+◌, ◌<◌, ◌≤◌, ℤ, List, length, Option}
use Rattle.pm_base.specs.Limits.{most_changes}
use Rattle.pm_cache.specs.Cache.{Cache, kept_number}
use Rattle.pm_cache.specs.Learning.{CanLearn}
use Rattle.pm_session.specs.Links.{Session}
use Rattle.pm_session.specs.Windows.{Keeps}
use Rattle.pm_session.specs.Prices.{IsNewIndex}
use Rattle.pm_session.specs.declared.price.PriceUpdate.{PriceUpdate}
use Rattle.pm_concentrator.specs.Concentrators.{Gathered}
use Rattle.pm_auctioneer.specs.Auctions.{Auction}

-- a parent with this cache may learn bid n of its child in place k, and the bid is newer than the one learnt last
pub record MayLearn (cache : Cache) (k n : ℕ) (demand : Option (List ℤ)) : Type 0 where
  pub can : CanLearn cache k demand
  pub newer : kept_number cache k < n

-- a concentrator may publish on its link: the steps are the same, and its next number is small and new on the link
pub record MayPublish (g : Gathered) (up : Session) : Type 0 where
  pub steps : up.steps ≡ g.cache.steps
  pub last : g.window.last ≤ most_changes
  pub number : up.up.offered ≤ g.window.last

-- a concentrator may pass a price on in its row of links: the record of the price's number is kept, each child has its
-- link, the index is new to all of them, and the step is one of the cache's steps
pub record MayPass (g : Gathered) (row : List Session) (price : PriceUpdate) : Type 0 where
  pub keeps : Keeps g.window price.number
  pub row_length : length row ≡ length g.cache.heads
  pub index : IsNewIndex price.index row
  pub step : price.step < g.cache.steps

-- the auctioneer may clear: its row has one link for each entry, and its next index is small and new on each of them
pub record MayClear (auctioneer : Auction) (row : List Session) : Type 0 where
  pub row_length : length row ≡ length auctioneer.cache.heads
  pub fits : auctioneer.index ≤ most_changes
  pub index : IsNewIndex (auctioneer.index + 1) row

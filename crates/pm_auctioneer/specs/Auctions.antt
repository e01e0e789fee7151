-- What the auctioneer keeps, and what a clearing does.
use Rattle.std.specs.Prelude.{◌≡◌, ℕ, ◌+◌, Bool, true, false, List}
use Rattle.pm_bid.specs.Clearing.{clearing_step}
use Rattle.pm_cache.specs.Cache.{Cache, aggregate_of, empty_cache}
use Rattle.pm_session.specs.Links.{Session}
use Rattle.pm_session.specs.Prices.{PricesOffered}

-- the entries of the children, the step and the index of the last clearing (0 if there is none),
-- and whether something was learnt since
pub record Auction : Type 0 where
  pub cache : Cache
  pub step : ℕ
  pub index : ℕ
  pub changed : Bool

-- an auctioneer whose children sent nothing
abbrev pub new_auction : ℕ → ℕ → Auction
new_auction children steps = record { cache = empty_cache children steps; step = 0; index = 0; changed = false }

-- the market was cleared under the next index, at the clearing step of the children's sum
pub record MarketCleared (old new : Auction) (index' step' : ℕ) : Type 0 where
  pub changed : old.changed ≡ true
  pub index : index' ≡ old.index + 1
  pub step : step' ≡ clearing_step (aggregate_of old.cache)
  pub cache : new.cache ≡ old.cache
  pub new_index : new.index ≡ index'
  pub new_step : new.step ≡ step'
  pub not_changed : new.changed ≡ false

-- the market was cleared, and the price was offered to each child that is not gone, with the number of its head
pub record ClearedAt (old new : Auction) (downs_old downs_new : List Session) (index step : ℕ) : Type 0 where
  pub cleared : MarketCleared old new index step
  pub prices : PricesOffered old.cache.heads step index downs_old downs_new

-- What an auctioneer that may restart keeps, and what each call makes of it.
use Rattle.std.specs.Prelude.{◌≡◌, ◌⊎◌, ℕ, ◌+◌, ◌<◌, ◌^◌, ◌||◌, ℤ, true, false, not, nat_le, List, length, Option}
use Rattle.pm_base.specs.Limits.{most_nodes}
use Rattle.pm_bid.specs.Clearing.{clearing_step}
use Rattle.pm_cache.specs.Cache.{kept_number, aggregate_of}
use Rattle.pm_cache.specs.Learning.{after_learning}
use Rattle.pm_auctioneer.specs.Auctions.{Auction, new_auction, MarketCleared}
use Rattle.pm_relay.specs.Numbers.{child_number, head_number, IsCaughtUp, HearsAgain}
use Rattle.pm_relay.specs.declared.fault.RootFault.{RootFault}
use Rattle.pm_relay.specs.declared.fault.RootFault.TheVariants.{NotCaughtUp, NotChanged, OutOfNumbers}

-- What its auctioneer has learnt and cleared since it came up, with indices of its own from 1 on, and `base`, which the root's
-- indices are ahead of these by; and of each child the number in its newest clearing.
pub record RootValue : Type 0 where
  pub auction : Auction
  pub base : ℕ
  pub recorded : List ℕ

-- the index of its newest clearing, 0 where there is none
abbrev pub newest_index : RootValue → ℕ
newest_index r = r.base + r.auction.index

-- a root that heard nothing yet, and whose newest clearing, before it restarted, had this index and these numbers
pub record RootComesBack (steps last : ℕ) (numbers : List ℕ) (r : RootValue) : Type 0 where
  pub auction : r.auction ≡ new_auction most_nodes steps
  pub base : r.base ≡ last
  pub recorded : r.recorded ≡ numbers

-- the root with the child's newer bid, before it looks for its clearing
abbrev pub with_root_bid : RootValue → ℕ → ℕ → Option (List ℤ) → RootValue
with_root_bid r child number demand = record r {
  auction = record r.auction {
    cache = after_learning r.auction.cache child number demand;
    changed = r.auction.changed || not (nat_le number (kept_number r.auction.cache child));
  };
}

-- a root that came back, lost its newest clearing, and has heard of each child just what that one had
abbrev pub HearsItsClearing : RootValue → Type 0
HearsItsClearing r = HearsAgain r.base r.auction.index r.recorded r.auction.cache.heads (r.auction.changed ≡ true)

-- what it heard was cleared again, under the same index
pub record ClearingRebuilt (old new : RootValue) : Type 0 where
  pub base : new.base + 1 ≡ old.base
  pub cleared : MarketCleared old.auction new.auction 1 (clearing_step (aggregate_of old.auction.cache))
  pub recorded : new.recorded ≡ old.recorded

abbrev pub LooksForClearing : RootValue → RootValue → Type 0
LooksForClearing old new = (HearsItsClearing old × ClearingRebuilt old new) ⊎ ((HearsItsClearing old → ⊥) × (new ≡ old))

-- the market was cleared under the next index, and the numbers that went into it are noted
pub record RootCleared (old new : RootValue) (index' step : ℕ) : Type 0 where
  pub caught_up : IsCaughtUp old.recorded old.auction.cache.heads
  pub index : index' ≡ newest_index old + 1
  pub cleared : MarketCleared old.auction new.auction (old.auction.index + 1) step
  pub numbers : (child : ℕ) → child < most_nodes → child_number new.recorded child ≡ head_number old.auction.cache.heads child
  pub children : length new.recorded ≡ length old.recorded
  pub base : new.base ≡ old.base

-- when the market is not cleared, and why
abbrev pub NotCleared : RootValue → RootFault → Type 0
NotCleared r NotCaughtUp = IsCaughtUp r.recorded r.auction.cache.heads → ⊥
NotCleared r NotChanged = IsCaughtUp r.recorded r.auction.cache.heads × (r.auction.changed ≡ false)
NotCleared r OutOfNumbers = IsCaughtUp r.recorded r.auction.cache.heads × (r.auction.changed ≡ true) × (newest_index r + 1 ≡ 2 ^ 32)

-- A cluster's lists with one place changed.
use Rattle.std.specs.Prelude.{◌≡◌, ℕ, ◌==◌, ◌⊎◌, ℤ, true, if◌then◌else◌, List, length, slice_index_or, Option, Some, None}
use Rattle.pm_base.specs.Limits.{window_size}
use Rattle.pm_session.specs.Links.{Session}
use Rattle.pm_session.specs.Windows.{unanswered_count}
use Rattle.pm_cache.specs.Learning.{with_newer_bid}
use Rattle.pm_concentrator.specs.Concentrators.{Gathered, published_heads}
use Rattle.pm_auctioneer.specs.Auctions.{Auction}
use Rattle.pm_stands.specs.Core.{row_at, link_at, gathered_at, cache_in}

-- the link of y to its child in place k alone is another
pub record OneLink (old new : List (List Session)) (y k : ℕ) : Type 0 where
  pub all : length new ≡ length old
  pub rows : (i : ℕ) → length (row_at new i) ≡ length (row_at old i)
  pub others : (i j : ℕ) → (i ≡ y → j ≡ k → ⊥) → link_at new i j ≡ link_at old i j

-- the links of y to its children alone are others
pub record OneRow (old new : List (List Session)) (y : ℕ) : Type 0 where
  pub all : length new ≡ length old
  pub rows : (i : ℕ) → length (row_at new i) ≡ length (row_at old i)
  pub others : (i j : ℕ) → (i ≡ y → ⊥) → link_at new i j ≡ link_at old i j

-- the concentrator of y alone is another
pub record OneConcentrator (old new : List (Option Gathered)) (y : ℕ) : Type 0 where
  pub all : length new ≡ length old
  pub others : (i : ℕ) → (i ≡ y → ⊥) → gathered_at new i ≡ gathered_at old i
  pub there : (i : ℕ) → slice_index_or old i None ≡ Some (gathered_at old i) → slice_index_or new i None ≡ Some (gathered_at new i)

-- two concentrators differ in their caches alone
pub record SameButCache (old new : Gathered) : Type 0 where
  pub window : new.window ≡ old.window
  pub limits : new.limits ≡ old.limits
  pub announced : new.announced ≡ old.announced

-- y learnt bid n of its child in place k, and nobody else learnt anything
pub record EntryLearnt (old_a new_a : Auction) (old_c new_c : List (Option Gathered)) (y k n : ℕ) (demand : Option (List ℤ)) : Type 0 where
  pub entry : cache_in new_a new_c y ≡ with_newer_bid (cache_in old_a old_c y) k n demand
  pub others : (i : ℕ) → (i ≡ y → ⊥) → cache_in new_a new_c i ≡ cache_in old_a old_c i
  pub kept : (i : ℕ) → SameButCache (gathered_at old_c i) (gathered_at new_c i)
  pub there : (i : ℕ) → slice_index_or old_c i None ≡ Some (gathered_at old_c i) → slice_index_or new_c i None ≡ Some (gathered_at new_c i)
  pub all : length new_c ≡ length old_c
  pub index : new_a.index ≡ old_a.index
  pub step : new_a.step ≡ old_a.step
  pub changed : new_a.changed ≡ (if y == 0 then true else old_a.changed)

-- the concentrator has nothing to publish, or its window is full
abbrev pub CannotPublish : Gathered → Type 0
CannotPublish g = (g.cache.heads ≡ published_heads g) ⊎ (unanswered_count g.window ≡ window_size)

-- What the moves on a cluster's lists need, and what they leave as it was.
use Rattle.std.specs.Prelude.{◌≡◌, ℕ, ◌+◌, ◌<◌, ◌≤◌, ◌^◌, true, List, length, slice_index_or, Option, None, is_some, IsSome, Vec}
use Rattle.std.specs.declared.alloc.Global.{Global}
use Rattle.pm_base.specs.Rows.{rows_of}
use Rattle.pm_session.specs.Links.{Session}
use Rattle.pm_session.specs.Prices.{IsNewIndex}
use Rattle.pm_concentrator.specs.Concentrators.{Gathered}
use Rattle.pm_auctioneer.specs.Auctions.{Auction}
use Rattle.pm_stands.specs.Core.{row_at}
use Rattle.pm_stands.specs.Rows.{OneLink, OneRow, OneConcentrator}

-- ---- what has its place

-- the concentrator of x is in the list
pub record HasConcentrator (concentrators : List (Option Gathered)) (x : ℕ) : Type 0 where
  pub node : x < length concentrators
  pub there : is_some (slice_index_or concentrators x None) ≡ true

-- y has its place in the list, and if it is not the auctioneer its concentrator is there
pub record HasParent (concentrators : List (Option Gathered)) (y : ℕ) : Type 0 where
  pub parent : y < length concentrators
  pub there : (y ≡ 0 → ⊥) → is_some (slice_index_or concentrators y None) ≡ true

-- the link of y to its child in place k is in the rows
pub record HasLinkAt (rows : List (Vec Session Global)) (y k : ℕ) : Type 0 where
  pub parent : y < length rows
  pub place : k < length (row_at (rows_of rows) y)

-- ---- what fits

-- a concentrator fits the link to its parent: they have the same steps, and its next number fits 32 bits and is new on
-- the link
pub record FitsLink (g : Gathered) (up : Session) : Type 0 where
  pub steps : up.steps ≡ g.cache.steps
  pub last : g.window.last + 1 < 2 ^ 32
  pub number : up.up.offered ≤ g.window.last

-- the auctioneer fits the links to its children: there is one for each entry, and its next index fits 32 bits and is new
-- on each of them
pub record FitsRow (auctioneer : Auction) (row : List Session) : Type 0 where
  pub same_length : length row ≡ length auctioneer.cache.heads
  pub last : auctioneer.index + 1 < 2 ^ 32
  pub index : IsNewIndex (auctioneer.index + 1) row

-- ---- what stays

-- of all concentrators and links only that of x, and that of y to its child in place k, may be others; and these only if
-- a number was published
pub record OnlyPublished (old_c new_c : List (Option Gathered)) (old_l new_l : List (List Session)) (x y k : ℕ) (number : Option ℕ) : Type 0 where
  pub one : OneLink old_l new_l y k
  pub alone : OneConcentrator old_c new_c x
  pub none : number ≡ None → (new_l ≡ old_l) × (new_c ≡ old_c)

-- of all concentrators and links only that of x, and those of x to its children, may be others
pub record OnlyPassed (old_c new_c : List (Option Gathered)) (old_l new_l : List (List Session)) (x : ℕ) : Type 0 where
  pub alone : OneConcentrator old_c new_c x
  pub row : OneRow old_l new_l x

-- of the auctioneer and all links only the auctioneer and the links to its children may be others; and these only if the
-- market was cleared
pub record OnlyCleared {Cleared : Type 0} (old_a new_a : Auction) (old_l new_l : List (List Session)) (cleared : Option Cleared) : Type 0 where
  pub row : IsSome cleared → OneRow old_l new_l 0
  pub none : cleared ≡ None → (new_a ≡ old_a) × (new_l ≡ old_l)

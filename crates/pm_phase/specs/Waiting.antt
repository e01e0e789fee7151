-- What becomes of a message that waits to be put, and of one that is taken: from the end of a link before the call to the end after it.
use Rattle.std.specs.Prelude.{◌≡◌, ◌⊎◌, ◌<◌, Bool, true, false, Option, Some, None, Contains, length}
use Rattle.pm_session.specs.declared.price.PriceUpdate.{PriceUpdate}
use Rattle.pm_cells.specs.Numbers.{newest_number}
use Rattle.pm_cells.specs.declared.message.UpMessage.{UpMessage}
use Rattle.pm_cells.specs.Ends.{LinkEnd, after_put_bid, after_lost_bid, after_put_price, after_lost_price}
use Rattle.pm_cells.specs.Ends.{after_taken_bid, after_no_bid, after_taken_price, after_no_price}

-- a bid that a child's end may put: it is newer than all put before, and there is room
pub record MayPutBid (end : LinkEnd) (bid : UpMessage) : Type 0 where
  pub newer : newest_number end.known.up.puts < bid.number
  pub room : length end.known.up.puts < end.room

-- a price that a parent's end may put: it is newer than all put before, there is room, and it names a bid that the end took
pub record MayPutPrice (end : LinkEnd) (price : PriceUpdate) : Type 0 where
  pub newer : newest_number end.known.down.puts < price.index
  pub room : length end.known.down.puts < end.room
  pub named : Contains end.known.up.takes price.number

-- the bid waits on, since the other end had the slot
pub record KeepsBid (old new : LinkEnd) (bid : UpMessage) (waiting : Option UpMessage) : Type 0 where
  pub may : MayPutBid old bid
  pub lost : new ≡ after_lost_bid old
  pub waits : waiting ≡ Some bid

-- the bid is dropped, since it may not be put
pub record DropsBid (old new : LinkEnd) (bid : UpMessage) (waiting : Option UpMessage) : Type 0 where
  pub may_not : MayPutBid old bid → ⊥
  pub same : new ≡ old
  pub none : waiting ≡ None

pub record PutBid (old new : LinkEnd) (bid : UpMessage) (waiting : Option UpMessage) : Type 0 where
  pub may : MayPutBid old bid
  pub put : new ≡ after_put_bid old bid
  pub none : waiting ≡ None

-- what becomes of the bid that waits: it is put, waits on, or is dropped
abbrev pub PutsBid : LinkEnd → LinkEnd → Option UpMessage → Option UpMessage → Bool → Type 0
PutsBid old new None waiting is_put = (new ≡ old) × (waiting ≡ None) × (is_put ≡ false)
PutsBid old new (Some bid) waiting true = PutBid old new bid waiting
PutsBid old new (Some bid) waiting false = KeepsBid old new bid waiting ⊎ DropsBid old new bid waiting

pub record KeepsPrice (old new : LinkEnd) (price : PriceUpdate) (waiting : Option PriceUpdate) : Type 0 where
  pub may : MayPutPrice old price
  pub lost : new ≡ after_lost_price old
  pub waits : waiting ≡ Some price

pub record DropsPrice (old new : LinkEnd) (price : PriceUpdate) (waiting : Option PriceUpdate) : Type 0 where
  pub may_not : MayPutPrice old price → ⊥
  pub same : new ≡ old
  pub none : waiting ≡ None

pub record PutPrice (old new : LinkEnd) (price : PriceUpdate) (waiting : Option PriceUpdate) : Type 0 where
  pub may : MayPutPrice old price
  pub put : new ≡ after_put_price old price
  pub none : waiting ≡ None

-- what becomes of the price that waits for a child: it is put, waits on, or is dropped
abbrev pub PutsPrice : LinkEnd → LinkEnd → Option PriceUpdate → Option PriceUpdate → Bool → Type 0
PutsPrice old new None waiting is_put = (new ≡ old) × (waiting ≡ None) × (is_put ≡ false)
PutsPrice old new (Some price) waiting true = PutPrice old new price waiting
PutsPrice old new (Some price) waiting false = KeepsPrice old new price waiting ⊎ DropsPrice old new price waiting

-- a bid is taken; or none is, since the end may take no more, the other end had the slot, or nothing newer waits
abbrev pub TakesBidFromLink : LinkEnd → LinkEnd → Option UpMessage → Type 0
TakesBidFromLink old new (Some bid) = new ≡ after_taken_bid old bid
TakesBidFromLink old new None =
    ((length old.known.up.takes < old.room → ⊥) × (new ≡ old)) ⊎ (new ≡ after_no_bid old) ⊎ (new ≡ after_lost_bid old)

-- a price is taken; or none is, for the same reasons
abbrev pub TakesPriceFromLink : LinkEnd → LinkEnd → Option PriceUpdate → Type 0
TakesPriceFromLink old new (Some price) = new ≡ after_taken_price old price
TakesPriceFromLink old new None =
    ((length old.known.down.takes < old.room → ⊥) × (new ≡ old)) ⊎ (new ≡ after_no_price old) ⊎ (new ≡ after_lost_price old)

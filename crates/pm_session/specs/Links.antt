-- The session between a child and its parent: bids go up, prices go down.
use Rattle.std.specs.Prelude.{◌≡◌, ℕ, ℤ, Bool, true, false, List, length, Option, Some, None}
use Rattle.pm_base.specs.Limits.{AreSteps}
use Rattle.pm_bid.specs.Bids.{zeros}
use Rattle.pm_session.specs.declared.price.PriceUpdate.{PriceUpdate}
use Rattle.pm_session.specs.Ways.{Way, Waits, Offered, Taken, IsWay, new_way}

-- a bid on its way up: gone if the child is no member, with all zeros then
pub record UpBid : Type 0 where
  pub number : ℕ
  pub gone : Bool
  pub demand : List ℤ

-- both ways of a link whose bids have so many steps; bids go by their numbers, prices by their indices
pub record Session : Type 0 where
  pub steps : ℕ
  pub up : Way UpBid
  pub down : Way PriceUpdate

abbrev pub bid_number : UpBid → ℕ
bid_number bid = bid.number

abbrev pub price_index : PriceUpdate → ℕ
price_index price = price.index

-- a link on which nothing was offered
abbrev pub new_session : ℕ → Session
new_session steps = record { steps = steps; up = new_way; down = new_way }

-- the demand of an offer: none is all zeros
abbrev pub demand_offered : ℕ → Option (List ℤ) → List ℤ
demand_offered steps None = zeros steps
demand_offered steps (Some demand) = demand

-- the bid that is offered under a number: none is a bid that is gone
abbrev pub bid_offered : ℕ → ℕ → Option (List ℤ) → UpBid
bid_offered steps number None = record { number = number; gone = true; demand = zeros steps }
bid_offered steps number (Some demand) = record { number = number; gone = false; demand = demand }

-- a bid was offered; the way down stays as it was
pub record BidOffered (old new : Session) (bid : UpBid) : Type 0 where
  pub up : Offered bid_number old.up new.up bid
  pub down : new.down ≡ old.down
  pub steps : new.steps ≡ old.steps

-- a bid was taken, all zeros if it is gone; the way down stays as it was
pub record BidTaken (old new : Session) (bid : UpBid) : Type 0 where
  pub up : Taken bid_number old.up new.up bid
  pub zeros_where_gone : bid.gone ≡ true → bid.demand ≡ zeros old.steps
  pub down : new.down ≡ old.down
  pub steps : new.steps ≡ old.steps

-- a price was offered; the way up stays as it was
pub record PriceOffered (old new : Session) (price : PriceUpdate) : Type 0 where
  pub down : Offered price_index old.down new.down price
  pub up : new.up ≡ old.up
  pub steps : new.steps ≡ old.steps

-- a price was taken; the way up stays as it was
pub record PriceTaken (old new : Session) (price : PriceUpdate) : Type 0 where
  pub down : Taken price_index old.down new.down price
  pub up : new.up ≡ old.up
  pub steps : new.steps ≡ old.steps

-- nothing waited, since the message offered last was taken or none was offered; nothing changes
pub record NothingWaited {Message : Type 0} (way : Way Message) (old new : Session) : Type 0 where
  pub waiting : way.waiting ≡ None
  pub offered : way.offered ≡ way.taken
  pub same : new ≡ old

-- the bid and the price that were offered last were taken
pub record IsTaken (session : Session) : Type 0 where
  pub bid : session.up.offered ≡ session.up.taken
  pub price : session.down.offered ≡ session.down.taken

-- what holds of each link
pub record IsSession (session : Session) : Type 0 where
  pub basis : AreSteps session.steps
  pub up : IsWay bid_number session.up
  pub down : IsWay price_index session.down
  pub same_steps : (bid : UpBid) → Waits session.up bid → length bid.demand ≡ session.steps
  pub zeros_where_gone : (bid : UpBid) → Waits session.up bid → bid.gone ≡ true → bid.demand ≡ zeros session.steps

-- The messages between a node and its parent: bids go up, prices go down.
use Rattle.std.specs.Prelude.{ℕ, Bool, true, ℤ, List}
use Rattle.pm_base.specs.Cuts.{Cut}
use Rattle.pm_bid.specs.Bids.{zeros}
use Rattle.pm_net.specs.Pricing.{Pricing}

-- a bid on its way up: its number, whether the sender is gone, and its demand
pub record BidMessage : Type 0 where
  pub number : ℕ
  pub gone : Bool
  pub demand : List ℤ

-- a price on its way down: the number of the receiver's bid that it answers, the index of the clearing, and the step
pub record PriceMessage : Type 0 where
  pub number : ℕ
  pub index : ℕ
  pub step : ℕ

abbrev pub bid_message : ℕ → Bool → List ℤ → BidMessage
bid_message number' gone' demand' = record { number = number'; gone = gone'; demand = demand' }

abbrev pub price_message : ℕ → ℕ → ℕ → PriceMessage
price_message number' index' step' = record { number = number'; index = index'; step = step' }

-- the numbers that messages have, as a cut
abbrev pub numbers_of : (ℕ → BidMessage) → Cut
numbers_of bids x = (bids x).number

-- what a parent has of a node of which it heard nothing, and a node that took no price
abbrev pub nothing_heard : Pricing → BidMessage
nothing_heard p = bid_message 0 true (zeros p.steps)

abbrev pub no_price : PriceMessage
no_price = price_message 0 0 0

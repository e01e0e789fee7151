-- What each message of a system is, so that the frames of a relay, a root and a device's agent have room for it.
use Rattle.std.specs.Prelude.{◌≡◌, ℕ, ◌<◌, ◌≤◌, true, length}
use Rattle.pm_bid.specs.Bids.{zeros}
use Rattle.pm_market.specs.Lists.{Lists, IsNode}
use Rattle.pm_net.specs.Pricing.{Pricing}
use Rattle.pm_net.specs.Messages.{BidMessage, PriceMessage}
use Rattle.pm_system.specs.System.{System, bid_in_channel, price_in_channel}
use Rattle.pm_system.specs.Given.{IsDemand}

-- a bid has a number above 0 and a demand, which is zeros where its sender is gone
pub record IsSentBid (p : Pricing) (bid : BidMessage) : Type 0 where
  pub number : 1 ≤ bid.number
  pub demand : IsDemand p.steps bid.demand
  pub gone : bid.gone ≡ true → bid.demand ≡ zeros p.steps

-- a price has a number and an index above 0, and names one of the steps
pub record IsSentPrice (p : Pricing) (price : PriceMessage) : Type 0 where
  pub number : 1 ≤ price.number
  pub index : 1 ≤ price.index
  pub step : price.step < p.steps

-- so it is of each message that was ever sent
pub record AreSent (lists : Lists) (p : Pricing) (sys : System) : Type 0 where
  pub bids : (x k : ℕ) → IsNode lists x → k < length (sys.bids_sent x) → IsSentBid p (bid_in_channel p sys x k)
  pub prices : (x k : ℕ) → IsNode lists x → k < length (sys.prices_sent x) → IsSentPrice p (price_in_channel sys x k)

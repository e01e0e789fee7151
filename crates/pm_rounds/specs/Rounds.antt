-- Rounds, in which what was sent arrives and each node is asked.
use Rattle.std.specs.Prelude.{◌≡◌, ℕ, ◌<◌, ◌≤◌, List, [], ◌∷◌, length}
use Rattle.std.specs.List.{All, Contains}
use Rattle.pm_market.specs.Lists.{Lists, nodes, parent, IsNode, IsInner, IsConcentrator}
use Rattle.pm_net.specs.Pricing.{Pricing}
use Rattle.pm_net.specs.Network.{Network, sent_bid, sent_price}
use Rattle.pm_net.specs.Events.{Event, TakesBid, Sends, Clears, TakesPrice, Rebuilds, Resends, TellsOne, network_after}

-- ---- a round

-- What may happen in a round: no device makes a bid, and no node restarts or stops.
abbrev pub IsCarried : Lists → Event → Type 0
IsCarried lists (TakesBid x k) = Unit {0}
IsCarried lists (Sends c) = Unit {0}
IsCarried lists Clears = Unit {0}
IsCarried lists (TakesPrice x k) = Unit {0}
IsCarried lists (Rebuilds y) = IsInner lists y × (y ≤ nodes lists)
IsCarried lists (Resends x) = Unit {0}
IsCarried lists (TellsOne z) = Unit {0}
IsCarried lists _ = ⊥

-- The parent of x takes a bid that x had sent when the round began, with the number of the bid in place k or a greater one.
pub record BidArrives (p : Pricing) (net : Network) (events : List Event) (x k : ℕ) : Type 0 where
  pub place : ℕ
  pub inside : place < length (net.bids_sent x)
  pub newer : (sent_bid p net x k).number ≤ (sent_bid p net x place).number
  pub given : Contains events (TakesBid x place)

-- x takes a price that had been sent to it when the round began, with the index of the price in place k or a greater one.
pub record PriceArrives (net : Network) (events : List Event) (x k : ℕ) : Type 0 where
  pub place : ℕ
  pub inside : place < length (net.prices_sent x)
  pub newer : (sent_price net x k).index ≤ (sent_price net x place).index
  pub given : Contains events (TakesPrice x place)

-- In a round each bid and each price that had been sent when it began arrives, or a newer one. Each relay is asked to send and the
-- auctioneer to clear, and each of them looks whether it has its record again. The events come in any order. Old messages, and
-- messages and questions more than once, may be among them.
pub record IsRound (lists : Lists) (p : Pricing) (net : Network) (events : List Event) : Type 0 where
  pub carried : All (IsCarried lists) events
  pub bids : (x k : ℕ) → IsNode lists x → k < length (net.bids_sent x) → BidArrives p net events x k
  pub prices : (x k : ℕ) → IsNode lists x → k < length (net.prices_sent x) → PriceArrives net events x k
  pub sends : (c : ℕ) → IsConcentrator lists c → Contains events (Sends c)
  pub clears : Contains events Clears
  pub looks : (y : ℕ) → IsInner lists y → y ≤ nodes lists → Contains events (Rebuilds y)

-- In a full round each node is also asked to send its newest bid again, and the auctioneer to tell each child its newest price
-- again.
pub record IsFullRound (lists : Lists) (p : Pricing) (net : Network) (events : List Event) : Type 0 where
  pub round : IsRound lists p net events
  pub resends : (x : ℕ) → IsNode lists x → Contains events (Resends x)
  pub tells : (z : ℕ) → IsNode lists z → parent lists z ≡ 0 → Contains events (TellsOne z)

-- ---- one round after the other

abbrev pub after_rounds : Lists → Pricing → Network → List (List Event) → Network
after_rounds lists p net [] = net
after_rounds lists p net (round ∷ rounds) = after_rounds lists p (network_after lists p net round) rounds

abbrev pub AreRounds : Lists → Pricing → Network → List (List Event) → Type 0
AreRounds lists p net [] = Unit {0}
AreRounds lists p net (round ∷ rounds) = IsRound lists p net round × AreRounds lists p (network_after lists p net round) rounds

abbrev pub AreFullRounds : Lists → Pricing → Network → List (List Event) → Type 0
AreFullRounds lists p net [] = Unit {0}
AreFullRounds lists p net (round ∷ rounds) = IsFullRound lists p net round × AreFullRounds lists p (network_after lists p net round) rounds

-- What was made and sent: of a network, and of the events that lead to it.
use Rattle.std.specs.Prelude.{◌≡◌, ℕ, ◌-◌, ◌<◌, ◌≤◌, ◌⊎◌, false, length}
use Rattle.pm_base.specs.Limits.{window_size}
use Rattle.pm_market.specs.Lists.{Lists, parent, IsNode, IsConcentrator}
use Rattle.pm_laws.specs.Gone.{is_gone}
use Rattle.pm_net.specs.Pricing.{Pricing}
use Rattle.pm_net.specs.Network.{Network, sent_bid, WasSent}
use Rattle.pm_net.specs.Running.{recorded_number}
use Rattle.pm_net.specs.Events.{Event, StopsBidding, StopsClearing}
use Rattle.pm_net.specs.Settled.{made_number}

-- ---- a network

-- x sent a bid of number n
abbrev pub SentNumber : Pricing → Network → ℕ → ℕ → Type 0
SentNumber p net x n = (k : ℕ) × (k < length (net.bids_sent x)) × ((sent_bid p net x k).number ≡ n)

-- Each node sent its newest bid, and the auctioneer the price of its newest clearing to each child that is not gone in it. This
-- fails only after a node stopped between storing and sending.
pub record AllSent (lists : Lists) (p : Pricing) (net : Network) : Type 0 where
  pub bids : (x : ℕ) → IsNode lists x → 1 ≤ made_number lists net x → SentNumber p net x (made_number lists net x)
  pub prices : (x : ℕ) → IsNode lists x → parent lists x ≡ 0 → is_gone lists x (recorded_number net 0 x) ≡ false →
      WasSent net x (net.last_number 0)

-- Each relay sent its newest bid, or has the record of it, or has room in its window. A relay with none of the three has eight
-- numbers unanswered, of which nobody received the last, and it lost the bid of that number. It is stuck, unless it hears again
-- just the numbers of its record.
abbrev pub CanGoOn : Lists → Pricing → Network → Type 0
CanGoOn lists p net = (c : ℕ) → IsConcentrator lists c →
    SentNumber p net c (net.last_number c)
    ⊎ ((net.whole_from c ≤ net.last_number c) ⊎ (net.last_number c - net.answered c < window_size))

-- ---- events

-- no node stops between storing and sending; it may restart at any other time
abbrev pub IsNoStop : Event → Type 0
IsNoStop (StopsBidding x) = ⊥
IsNoStop StopsClearing = ⊥
IsNoStop _ = Unit {0}

-- No relay stops between storing a bid and sending it: a carrier stores the bid with the number, and sends it again after each
-- start, so that it is in the channel from then on. A device and the auctioneer may stop there.
abbrev pub RelaySendsAtOnce : Lists → Event → Type 0
RelaySendsAtOnce lists (StopsBidding x) = IsConcentrator lists x → ⊥
RelaySendsAtOnce lists _ = Unit {0}
